-- Fronts of forms keep the rules of good code, instruction by instruction.
pub mod GoodInstructions
pub mod GoodOperands
pub mod GoodFronts
pub mod KnownForms
pub mod GoodConstants
