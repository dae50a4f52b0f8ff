pub mod Kept
pub mod Limits
pub mod LimitsBack
pub mod LowBack
