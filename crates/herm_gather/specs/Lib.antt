pub mod Diaries
pub mod Gathered
pub mod Orders
