pub mod Committed
pub mod Lent
pub mod Operations
pub mod Publishers
pub mod Publishing
pub mod Viewers
pub mod Views
pub mod Walks
