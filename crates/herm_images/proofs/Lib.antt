pub mod ListedFacts
pub mod DroppedPaths
pub mod AcceptedModules
pub mod GivenProcesses
pub mod ReportedImages
