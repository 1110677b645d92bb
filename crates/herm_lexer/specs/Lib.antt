pub mod Bytes
pub mod Runs
pub mod Spelling
pub mod Faults
pub mod Reading
pub mod laws
