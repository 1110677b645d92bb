-- What is proved of the words of refusals.
pub mod WordLaws
pub mod NodeLaws
