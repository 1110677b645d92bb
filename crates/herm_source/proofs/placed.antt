-- What cells a process holds at places with types.
pub mod PlacedSteps
pub mod AnsweredPlaces
pub mod KeptStanding
