pub mod DecidedInstructions
pub mod PlacesOfCode
pub mod ActingAtOnce
pub mod DecidedCode
pub mod JudgedCode
pub mod LabelsOfCode
pub mod FactsBehind
pub mod KeysOnStack
