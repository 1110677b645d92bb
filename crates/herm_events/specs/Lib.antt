pub mod TraceBytes
pub mod View
pub mod Rising
pub mod Names
