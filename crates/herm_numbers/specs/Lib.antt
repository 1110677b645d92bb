-- How contracts see what is known where a statement stands.
pub mod View
pub mod Found
pub mod Kept
pub mod Faults
pub mod Statements
pub mod Counts
pub mod Within
pub mod Beside
