-- The proofs of the combinators' laws, which crates above cite.
pub mod Ahead
pub mod Simple
pub mod Seams
pub mod Sequences
pub mod Marks
pub mod Choices
pub mod Lists
pub mod Separated
pub mod Consequences
pub mod Nesting
pub mod Readings
pub mod Agreement
