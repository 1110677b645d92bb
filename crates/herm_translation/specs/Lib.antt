pub mod StandsFor
pub mod laws
