-- Blocks: each is led to, where each instruction stands, and that those of a checked process are sound.
pub mod BlockOfNode
pub mod BlocksReached
pub mod GoodEdges
pub mod LocatedInstructions
pub mod SoundBlocks
pub mod ActingFronts
pub mod ProcessBlocks
