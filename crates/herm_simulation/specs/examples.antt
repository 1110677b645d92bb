-- Programs with their images.
pub mod TranslatedExamples
