pub mod Values
pub mod WorldValue
