pub mod Code
pub mod Kept
pub mod Meaning
