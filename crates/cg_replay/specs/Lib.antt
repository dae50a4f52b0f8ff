pub mod Answering
pub mod HistoryReplay
pub mod MachineOutput
pub mod Replay
pub mod ReplayCode
pub mod Waiting
