pub mod Deciding
pub mod Kept
pub mod Limits
