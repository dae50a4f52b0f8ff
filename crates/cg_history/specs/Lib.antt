pub mod Code
pub mod Meaning
pub mod SessionMap
pub mod SessionMapLends
