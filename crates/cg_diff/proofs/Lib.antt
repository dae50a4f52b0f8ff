pub mod Merged
pub mod Nothing
pub mod Sides
pub mod TwoWorlds
