pub mod ExampleImages
pub mod CodeExamples
pub mod MoreCodeExamples
