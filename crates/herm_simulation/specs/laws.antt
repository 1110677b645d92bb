-- What is claimed of the code of a process beside its source.
pub mod EdgeLaws
pub mod FrontLaws
pub mod CheckLaws
pub mod SimulationLaws
pub mod DiarySimulation
pub mod CodeReports
pub mod CheckedCode
