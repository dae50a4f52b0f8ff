pub mod Batch
pub mod EndValue
pub mod Ends
pub mod Fault
pub mod Files
pub mod Outcomes
