-- That the entries of a run in order are the journal of a run.
pub mod Commuting
pub mod EntryMoves
pub mod MovesRun
pub mod EntryPaths
pub mod Swapped
pub mod SortedPaths
pub mod OrderedRuns
