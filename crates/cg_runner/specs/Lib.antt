pub mod Closed
pub mod End
pub mod EndOf
pub mod Happened
pub mod Runs
pub mod Trying
pub mod Workers
