-- What the tree and the lock table hold at each stage, as items come and go.
-- stacks that need and mark the same are held alike; savepoints come and go
pub mod Alike
-- a transaction begins, and ends
pub mod BeginAndEnd
-- items undone one after another, in the words of the machine
pub mod Items
-- live stacks after one more record
pub mod LiveStacks
-- how often a stack holds the mark of a subtree tells whether one of its items marks it
pub mod Marked
-- one item lets go, as the laws say
pub mod LettingGo
-- the newest item comes off as a transaction goes back, the oldest as it commits
pub mod GoingBack
-- a command is done, and stands on its stack
pub mod Doing
-- the items of the definitions, as they stand on the stack of the code
pub mod StackItems
-- steps of items, one after another
pub mod Steps
-- whole stacks come off
pub mod Unwinding
-- whole stacks are let go as their transactions commit
pub mod Draining
