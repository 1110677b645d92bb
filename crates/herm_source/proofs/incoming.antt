-- That the port at which a process looks for a message is that of an inport that it has.
pub mod SuitsPorts
