pub mod BatchLemmas
pub mod HistoryFile
mod Noting
pub mod Stopping
