-- How contracts see the typed trees.
pub mod View
pub mod RaisedByExpressions
pub mod Outcomes
pub mod Blocks
pub mod Within
pub mod Beside
