pub mod Decimals
pub mod Firsts
pub mod Lines
pub mod Named
pub mod Spent
