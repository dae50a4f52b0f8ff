pub mod Comparing
pub mod Standing
