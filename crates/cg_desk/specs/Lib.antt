pub mod Audit
pub mod LiveStacks
pub mod Publishing
pub mod Replies
pub mod Step
pub mod Transactions
