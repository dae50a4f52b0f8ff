pub mod CommandText
pub mod Spaced
pub mod Laws
pub mod Read
