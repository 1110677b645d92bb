-- What definitions modules mean, and where they are faulty.
pub mod Names
pub mod Items
pub mod Meaning
pub mod Marks
pub mod Walks
pub mod DefinitionFaults
pub mod laws
