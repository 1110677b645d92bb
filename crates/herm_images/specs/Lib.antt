-- The checked modules of an accepted program, and its image.
pub mod CheckedPrograms
pub mod laws
