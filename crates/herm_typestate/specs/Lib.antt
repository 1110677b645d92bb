-- Sets of facts as trees.
pub mod Trees
pub mod Small
pub mod Facts
pub mod Topmost
