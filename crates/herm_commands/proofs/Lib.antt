pub mod Asking
pub mod CheckedFiles
pub mod DigitTexts
pub mod Rows
pub mod Within
