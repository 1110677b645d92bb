-- That two machines whose states correspond run together.
pub mod Turned
pub mod SameOutside
pub mod StepsTogether
pub mod RunsTogether
pub mod RunsFollow
pub mod RoundsFollow
pub mod DiariesJoined
pub mod CountdownsJoined
pub mod CountdownsKeep
