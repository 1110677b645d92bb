pub mod Standing
pub mod SoundMachines
pub mod SoundBeside
pub mod laws
