-- That names make no difference to what the forms do.
pub mod RenamedBodies
pub mod RenamedForms
pub mod RenamedActions
pub mod RenamedActs
