-- The refusals of the processes of a program, and each process by what is known of the program.
pub mod Judged
pub mod Refused
-- Control through a part of the text.
pub mod ControlInOnePass
-- What stands beside the meaning of a statement.
pub mod Entries
pub mod Kept
