pub mod Members
pub mod NextMembers
pub mod Summaries
