pub mod Covers
pub mod Laws
pub mod Values
