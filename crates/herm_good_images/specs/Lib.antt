pub mod CheckedModules
pub mod laws
