pub mod Closes
pub mod Countdowns
