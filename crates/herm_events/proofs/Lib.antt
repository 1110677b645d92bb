pub mod Decimals
pub mod Named
pub mod Appended
