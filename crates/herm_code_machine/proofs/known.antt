-- That a process wants and learns only what is known.
pub mod KindsOfEffects
pub mod CodeKinds
