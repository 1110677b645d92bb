-- The words of refusals, and what is looked up for them.
pub mod Sites
pub mod MissingFactWords
pub mod ToldWords
pub mod Stretches
pub mod Rows
pub mod laws
