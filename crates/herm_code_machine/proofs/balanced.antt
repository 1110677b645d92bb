-- That a process of code keeps the ledger.
pub mod EffectsBalance
pub mod CodeBalance
