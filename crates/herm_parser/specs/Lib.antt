-- What the parser's functions give, in terms of the grammar's plain readers, and what it answers for a file.
pub mod Gives
pub mod Along
pub mod Levels
pub mod Walk
pub mod Forms
pub mod Blocks
pub mod AlongDefinitions
pub mod Shapes
pub mod Modules
pub mod Parsing
pub mod BracketDepth
pub mod Laws
pub mod SyntaxFaults
pub mod TokenPlaces
