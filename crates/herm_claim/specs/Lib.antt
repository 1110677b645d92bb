pub mod Claim
pub mod Purposes
pub mod laws
