pub mod Stops
pub mod Copyable
pub mod Sights
pub mod Components
pub mod Seen
