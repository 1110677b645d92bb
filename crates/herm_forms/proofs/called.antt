-- Calls and returns.
pub mod Returns
pub mod LostApart
pub mod TakenParts
pub mod GivenReplies
pub mod LessFacts
pub mod OpenCalls
pub mod ApartPaths
pub mod HeardReplies
pub mod TakenApart
pub mod CallMessages
pub mod SetArguments
pub mod GivenInputs
