-- Checked processes and their blocks.
pub mod CheckedProcesses
pub mod Scopes
pub mod Marked
pub mod Seen
pub mod Views
