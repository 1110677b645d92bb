-- Cells at places of their types.
pub mod RowsOfSlots
pub mod StandEffects
pub mod HeldPlaces
pub mod ActionsStand
pub mod CallsStand
pub mod CodeStanding
pub mod ImageStanding
