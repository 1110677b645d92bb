pub mod DiaryLaws
pub mod OrderLaws
pub mod RunLaws
pub mod SuitsLaws
pub mod ProcessLaws
