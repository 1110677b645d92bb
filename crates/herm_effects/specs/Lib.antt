-- What a statement needs, makes and takes away.
pub mod Rows
pub mod Pushed
