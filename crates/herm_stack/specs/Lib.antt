pub mod Answers
pub mod HeldValues
pub mod Memory
pub mod Operands
