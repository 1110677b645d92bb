-- Where processes stand, and what their statements find there.
pub mod LeadsOn
pub mod FoundNeeds
pub mod RunsReach
