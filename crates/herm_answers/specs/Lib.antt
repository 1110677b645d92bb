pub mod Calling
pub mod Incomings
pub mod Orders
pub mod Puttings
pub mod Replies
pub mod Returning
pub mod Settled
pub mod Takings
