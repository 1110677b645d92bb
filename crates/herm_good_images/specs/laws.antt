pub mod EnteredLoops
pub mod GoodImages
pub mod CheckedModulesExist
pub mod CodeLengths
