pub mod Marks
pub mod Meets
pub mod Within
pub mod FactSets
pub mod Topmost
pub mod Left
