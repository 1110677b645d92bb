pub mod GoodLaws
pub mod LabelLaws
pub mod KeyLaws
pub mod CodeExampleLaws
