pub mod Arms
pub mod Told
pub mod Worked
pub mod Heard
pub mod Composed
