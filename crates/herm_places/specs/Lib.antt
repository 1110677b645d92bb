pub mod Held
pub mod HeldPlaces
pub mod Plain
