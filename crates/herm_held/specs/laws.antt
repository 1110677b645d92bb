-- What is claimed of what processes hold.
pub mod HeldLaws
