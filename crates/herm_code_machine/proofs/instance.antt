-- That the machine of code meets the laws of one process.
pub mod CodeHeld
pub mod CodeLaws
pub mod CodeForgets
