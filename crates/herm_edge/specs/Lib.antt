pub mod Faults
pub mod Shelf
pub mod View
pub mod Sink
pub mod Buffered
pub mod MemShelf
pub mod MemSink
pub mod Reader
