pub mod Examples
pub mod Program
pub mod Within
pub mod Words
