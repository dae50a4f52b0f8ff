pub mod Files
pub mod Imported
pub mod Mounted
pub mod Taking
pub mod Values
