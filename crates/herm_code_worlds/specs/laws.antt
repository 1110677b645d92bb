-- What is claimed of the worlds of images.
pub mod CodeLaws
pub mod BareLaws
pub mod WorldOfCode
pub mod CheckedWorlds
