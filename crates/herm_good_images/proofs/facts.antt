-- Facts behind edges, and what is left of them without the excess.
pub mod DroppedFacts
pub mod BehindEdges
