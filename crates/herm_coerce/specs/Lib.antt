-- Coercions as the model's, and which they are of a flow and its labels.
pub mod View
pub mod Coerced
pub mod laws
