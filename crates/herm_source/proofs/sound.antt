-- One process of a checked program stays sound within itself.
pub mod LoopLists
pub mod Shapes
pub mod OneForm
pub mod OneModule
pub mod SoundProcesses
pub mod Standings
pub mod GoingOn
pub mod CheckedPrograms
