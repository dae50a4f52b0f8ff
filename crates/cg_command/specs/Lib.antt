pub mod Alike
pub mod Applied
pub mod CompactFields
pub mod CompactOps
pub mod Meaning
pub mod OnlineCpus
pub mod Pid
pub mod Subtree
