pub mod Entries
pub mod Gathered
pub mod GatheredTree
pub mod Known
pub mod Making
pub mod Plain
pub mod Representable
pub mod Soundness
