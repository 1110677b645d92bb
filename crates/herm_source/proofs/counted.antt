-- How many inports and callmessages a process has that are not finalised.
pub mod KindTotals
pub mod CountedSteps
