-- How contracts see the types of the code.
pub mod View
pub mod Table
pub mod Chosen
pub mod Messages
