-- That the source machine meets the laws of one process.
pub mod HeldValues
pub mod SourceLaws
pub mod SourceForgets
pub mod SourceLooks
