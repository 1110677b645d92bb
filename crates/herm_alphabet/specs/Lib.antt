-- Keywords and signs, and how they are written.
pub mod Tokens
pub mod KeywordLetters
