pub mod Refusing
pub mod Running
pub mod ClaimsExact
