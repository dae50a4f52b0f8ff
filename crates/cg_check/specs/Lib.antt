pub mod Kinds
pub mod Passing
pub mod Right
