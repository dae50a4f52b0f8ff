pub mod Asked
pub mod Committed
pub mod Grows
pub mod Operations
pub mod Same
pub mod Seen
