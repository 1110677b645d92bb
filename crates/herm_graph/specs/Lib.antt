-- What the types of a table lead to, in plain definitions.
pub mod Depth
pub mod Graph
pub mod Met
pub mod Links
pub mod Tells
pub mod Analysed
