-- That names make no difference to what a process does.
pub mod RenamedSteps
