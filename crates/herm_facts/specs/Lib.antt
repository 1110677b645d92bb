-- Sets of numbers, and the numbers that facts have.
pub mod FactSets
pub mod NumberSets
pub mod Numbers
pub mod FactNumbers
pub mod SparseSets
