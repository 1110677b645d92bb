-- That a process keeps its number and its module.
pub mod KeptEffects
pub mod CodeNumbers
