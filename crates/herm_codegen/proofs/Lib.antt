-- Lemmas of the generator.
pub mod MarkedArrivals
pub mod Beginnings
pub mod LeftFacts
pub mod Emitted
pub mod WrittenModules
pub mod ProcessCode
pub mod Literals
pub mod ProgramCode
pub mod Steps
