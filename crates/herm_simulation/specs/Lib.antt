pub mod Leading
pub mod FrontsInPlace
pub mod Checks
pub mod Standing
pub mod Simulating
pub mod SimulatingWithout
pub mod laws
pub mod examples
