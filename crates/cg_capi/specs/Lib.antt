pub mod Calls
pub mod Owns
