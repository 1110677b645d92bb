-- Lemmas of blocks.
pub mod LeadingOn
pub mod HandingOn
pub mod OpenSlots
pub mod ScopedBlocks
pub mod ProcessBlocks
pub mod Marks
pub mod PlainEdges
pub mod Rest
pub mod Turns
