-- The tree of control groups as a system of commands, and what holds of its keys, its answers and its entries alone.
-- it keeps the laws that the theory asks
pub mod LawsOfGroups
-- Busy is answered exactly where a transaction is in the way and no earlier refusal applies
pub mod BusyExactly
-- live commands of different open transactions change keys that don't touch
pub mod LiveKeysApart
-- the machine is the one that its history gives, whole
pub mod WholeMachine
-- a step from a history goes on by the records alone
pub mod SteppingOn
-- what a history asked for is answered again as it was
pub mod AnsweringAgain
-- what a history shows is ASCII
pub mod ShownTexts
-- which groups a list of changes makes or takes away
pub mod GroupChanges
-- stages of unwinding: the tree is sound, and taking an item off leads to the next stage
pub mod UnwindingStages
-- below a path that is absent there is no group, and what is needed below it is needed with it
mod NeededAbove
-- what is neither a group nor needed may be swept
mod Sweeping
-- going back has room at every turn
pub mod RoomForGoingBack
-- a command that marks a group's subtree changes the group, or finds it there
pub mod MarkedGroups
-- no group is needed by two transactions
mod NeededOnce
-- taking an item off lets go what nothing needs any more
pub mod LettingGo
