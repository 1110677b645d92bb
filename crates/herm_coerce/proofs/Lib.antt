pub mod Excess
pub mod Rows
pub mod Dropping
pub mod Carried
pub mod Kept
