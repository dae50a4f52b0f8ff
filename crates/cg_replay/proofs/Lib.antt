pub mod Answered
pub mod Endings
mod Gathered
pub mod HistoryReplays
mod LastSession
mod MachineOutputs
pub mod OneOutput
mod OwnHistories
pub mod Playing
pub mod Reached
