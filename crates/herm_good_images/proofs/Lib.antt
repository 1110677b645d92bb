pub mod loops
pub mod facts
pub mod fronts
pub mod blocks
pub mod GoodModules
pub mod ImagesGood
pub mod ModulesExist
pub mod CodeLengths
