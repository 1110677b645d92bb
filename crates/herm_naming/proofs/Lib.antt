pub mod Settled
pub mod TypedForms
pub mod Apart
pub mod Bodies
pub mod KeptRules
pub mod Unrefused
