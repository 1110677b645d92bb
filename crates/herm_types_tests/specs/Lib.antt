-- The table by hand that the tests try each call on.
pub mod Sample
