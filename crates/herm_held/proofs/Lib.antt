pub mod TypedPlaces
pub mod TypedReads
pub mod WantsHeld
pub mod KindTotals
pub mod KindAgrees
