pub mod Entries
pub mod Kept
pub mod Nexts
pub mod Processes
pub mod Sums
