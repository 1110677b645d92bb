-- What code is made of, and how the types of the code stand for it.
pub mod Frames
pub mod Operands
pub mod Forms
pub mod Shared
pub mod View
pub mod Blocks
pub mod Exits
pub mod Walked
pub mod Lengths
pub mod Held
