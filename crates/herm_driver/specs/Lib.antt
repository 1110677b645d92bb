pub mod Words
pub mod Purposes
pub mod Texts
pub mod Loads
pub mod Ending
pub mod Due
