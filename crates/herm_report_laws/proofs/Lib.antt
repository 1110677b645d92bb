pub mod StringTexts
pub mod Texts
pub mod Strings
pub mod Described
