pub mod Copies
pub mod Keyed
pub mod Keys
pub mod Meets
pub mod Parts
pub mod View
pub mod Whole
pub mod Works
