-- Readers of lists of symbols, built of combinators, and the laws that tie them to the rules of a grammar.
pub mod Reader
pub mod Combinators
pub mod BracketBalance
pub mod laws
