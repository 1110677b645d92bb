pub mod TableTests
pub mod TypingTests
pub mod BodyTests
