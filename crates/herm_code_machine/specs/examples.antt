-- Code by hand, for the computed runs.
pub mod CodeByHand
pub mod EndingCode
pub mod CallingCode
pub mod BranchingCode
pub mod CodeRuns
pub mod StuckCode
