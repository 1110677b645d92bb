-- The line on files that are accepted.
pub mod AcceptedLines
