-- How contracts see what the tests of statements find.
pub mod View
pub mod Sight
