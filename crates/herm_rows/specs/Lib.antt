pub mod Keys
pub mod Faults
pub mod Nodes
pub mod OrderedByKey
