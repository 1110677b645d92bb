pub mod PlaceTexts
pub mod View
pub mod Letters
pub mod LettersInOrder
