pub mod Alike
pub mod BySession
mod Newest
pub mod Places
pub mod Records
