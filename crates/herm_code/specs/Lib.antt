pub mod View
pub mod Sample
