-- The trees of the language and what they spell.
pub mod Symbols
pub mod KeywordSymbols
pub mod Trees
pub mod Spelling
pub mod Fitting
pub mod Words
pub mod ReadStatements
pub mod ReadModules
pub mod View
pub mod StatementNumbers
pub mod laws
pub mod examples
pub mod ReadExpressions
