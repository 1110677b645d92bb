-- The lines of refusals.
pub mod RefusalLines
