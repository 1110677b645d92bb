pub mod Decimal
pub mod RunLimits
