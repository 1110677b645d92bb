pub mod ExampleTrees
pub mod ExampleItems
pub mod ExampleNames
