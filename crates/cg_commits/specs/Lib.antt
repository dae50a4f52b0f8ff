pub mod Answers
pub mod Kept
pub mod Layout
