pub mod Comment
pub mod Explained
pub mod InTheWay
pub mod Notes
pub mod Run
