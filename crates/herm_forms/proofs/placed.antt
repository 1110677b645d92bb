-- That forms keep a property of cells with the types of their places.
pub mod PlacedParts
pub mod PlacedForms
pub mod PlacedActions
pub mod PlacedAnswers
pub mod PlacedWants
pub mod PlacedGoing
