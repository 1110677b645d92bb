-- That forms keep what kinds of cells a process has.
pub mod HeldKinds
pub mod KindsKept
pub mod KindsExchanged
