pub mod ChainLaws
pub mod Splits
pub mod Relinked
pub mod Pushed
pub mod Unlinked
mod TwoPushed
