pub mod Checked
pub mod Operated
pub mod Decimals
pub mod Stacked
pub mod Taken
pub mod Counted
