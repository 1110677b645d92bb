-- What expressions come to.
pub mod NumberTexts
pub mod CopiedValues
pub mod ReadValues
pub mod TypedExpressions
pub mod AssignedExpressions
pub mod ExampleTyping
pub mod RaisedExceptions
