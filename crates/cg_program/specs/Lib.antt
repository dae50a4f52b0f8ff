pub mod Fault
pub mod Files
pub mod Named
pub mod Plain
pub mod Program
pub mod Show
pub mod Status
