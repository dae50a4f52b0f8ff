pub mod GroupValue
pub mod Outline
pub mod OutlineOf
