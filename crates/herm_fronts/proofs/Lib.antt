-- Lemmas of the generator.
pub mod Chains
pub mod Keys
pub mod Fronts
pub mod WalkedNodes
pub mod Shared
pub mod Sizes
pub mod WalkSteps
pub mod Ranged
pub mod Trimmed
pub mod HeldHere
pub mod SelectSeen
pub mod Edges
