pub mod Subscribed
pub mod Watches
