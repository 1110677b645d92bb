pub mod CodeWorlds
pub mod BareReports
pub mod laws
