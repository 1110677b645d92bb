-- What process modules mean, every name replaced by its number, and where their names and types are wrong.
pub mod Numbers
pub mod Meaning
pub mod UnknownNames
pub mod Fits
pub mod Copies
pub mod StatementFaults
pub mod RefusalsOfNames
pub mod UnreachedStatements
pub mod laws
pub mod examples
