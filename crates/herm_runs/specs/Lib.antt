pub mod Counting
pub mod Throughout
pub mod Joining
pub mod examples
pub mod laws
