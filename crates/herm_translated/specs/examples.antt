-- Code of small programs.
pub mod CheckedByRounds
pub mod CodeOfPrograms
pub mod TheRing
pub mod LeavingPrograms
pub mod CodeOfLeaving
