pub mod StatementExamples
pub mod ExampleScope
pub mod ProcessExamples
