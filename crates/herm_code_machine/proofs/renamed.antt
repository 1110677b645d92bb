-- That names make no difference to what a process of code does.
pub mod EffectsRenamed
pub mod CodeRenamed
