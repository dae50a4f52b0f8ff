pub mod Hints
pub mod Places
pub mod Puts
pub mod Representable
pub mod Runs
mod SoundTrees
pub mod Taken
pub mod Trees
