pub mod SinkLemmas
pub mod Putting
