-- Flows as the model's, and labels of points.
pub mod View
pub mod Numberings
pub mod Lists
pub mod Weights
pub mod Labelled
pub mod Followed
pub mod Shortest
pub mod FactSets
pub mod Effects
pub mod Searched
pub mod Remaining
pub mod Alike
pub mod Trails
pub mod Missing
pub mod Faults
