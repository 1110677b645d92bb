pub mod Changed
pub mod Exchanged
pub mod Forgotten
pub mod Lent
pub mod Put
pub mod Read
pub mod Replaced
