-- What the code of definitions computes, in plain definitions.
pub mod Seen
pub mod Few
pub mod Found
pub mod Kept
pub mod Steps
pub mod TestsOfTable
pub mod Judged
pub mod View
pub mod Plain
pub mod PlainFacts
pub mod Refused
pub mod Distinct
