pub mod Chains
pub mod Numbered
pub mod SeenArms
pub mod SeenBlocks
