pub mod Copies
pub mod Files
pub mod Status
pub mod Steps
pub mod Teller
pub mod TellerCode
