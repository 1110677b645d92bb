pub mod Tables
pub mod Indexed
pub mod Extended
pub mod Walks
pub mod Few
pub mod PathFacts
pub mod Repeats
pub mod ClosedLists
