-- What is proved of coercions.
pub mod CoercionLaws
