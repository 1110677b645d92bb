pub mod Reached
pub mod Exactly
mod Finalised
mod Looked
pub mod Walked
pub mod Seen
pub mod Forgotten
pub mod Wholes
pub mod Shallow
pub mod Counted
mod SameKeys
mod KeyedRows
mod PutRows
mod TakenRows
pub mod Filled
mod VeryRows
mod Tables
mod Copied
mod Distinct
mod RowKeys
mod NewKeys
mod AsItWas
