pub mod Adding
pub mod Cuts
pub mod SameClasses
pub mod SameNumber
pub mod Merged
pub mod Owned
pub mod InTurn
pub mod SortedPlaces
