mod AtHistory
mod Begun
mod BusyTold
mod EndingBy
mod Endings
mod HolderFound
mod Open
mod Opened
mod RunCommands
mod ReturningByOne
mod ReturningParts
mod ReturningToSavepoints
mod Savepoints
mod Settling
mod Showing
mod Slots
-- What the tree and the lock table hold at each stage.
mod Stages
mod Stepping
mod SteppedAs
mod TheLaws
-- where the commands on a stack have their records
mod CommitPlaces
