pub mod Awaited
pub mod Gots
pub mod Kinds
pub mod Machines
