-- Counts of inports and callmessages.
pub mod KindTotals
pub mod CopiedKinds
pub mod CodeAgrees
pub mod CodeCounts
