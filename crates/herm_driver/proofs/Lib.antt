pub mod Chosen
pub mod Ended
pub mod Claimed
pub mod Arguments
pub mod Written
