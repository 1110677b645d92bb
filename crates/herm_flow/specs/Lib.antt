-- Flows as the model's.
pub mod View
pub mod Parts
pub mod Starts
pub mod Edges
pub mod Around
pub mod KnownOutcomes
pub mod Onward
pub mod Some
pub mod NumberTables
pub mod Kept
pub mod Touched
pub mod CoveredExceptions
pub mod Ready
pub mod OnwardView
pub mod Listed
