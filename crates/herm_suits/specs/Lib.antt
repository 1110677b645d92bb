pub mod Decided
pub mod Exact
pub mod View
