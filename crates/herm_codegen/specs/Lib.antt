-- What is written of blocks, of processes and of programs.
pub mod Emitted
pub mod Arrivals
pub mod Listed
pub mod Modules
pub mod Programs
