pub mod InstructionTests
pub mod GoodTests
