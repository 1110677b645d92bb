pub mod ByHand
pub mod Going
