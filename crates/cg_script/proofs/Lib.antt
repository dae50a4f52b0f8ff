pub mod Facts
pub mod HistoryLines
pub mod HistoryTurns
pub mod OneLine
mod Scripts
mod SessionNames
pub mod WorldLemmas
mod WrittenLines
