pub mod Meaning
pub mod Output
pub mod Report
pub mod Run
pub mod Shown
pub mod Steps
