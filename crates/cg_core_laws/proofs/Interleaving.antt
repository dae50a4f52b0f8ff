-- The theory of interleaving, of any system of commands that keeps the laws: of its machine after any requests.
-- what is asked of a system: the laws of one command and of two
pub mod SystemLaws
-- what it is for stack entries to run, to be apart and to give the same state
pub mod RunsOfStackEntries
-- what is left when a transaction's newest stack entry is taken off
mod TakingOff
-- stack entries that don't clash can be swapped, so those of one transaction can be gathered
mod Gathering
-- the open transactions: each once, and without one of them
pub mod OpenTransactions
-- a command answers in a part of the work as in the whole, where it clashes with none of the rest
mod AnswersInParts
-- the machine with one log of all that stands, in place of stacks
pub mod LogMachine
-- what holds of a refusal and of a Begin holds of each step without an open transaction
mod StepsWithoutTransaction
-- what every step of it keeps, and that taking stack entries off keeps it
pub mod LogInvariant
-- each step keeps it
mod LogInvariantKept
-- from that: the tree, the orders in which the log may run, the answers to commands, and unwinding
mod LogIsSerial
-- what stands of a history, and what goes from it with a stack's newest item
mod SelectedRecords
-- with the record of a refusal a history is of the same tree, transactions, stacks and locks
pub mod Refusals
-- how the log hangs together with its history
pub mod HistoryTie
-- each step keeps that
mod HistoryTieKept
-- what a step leaves as it is
mod UnchangedBySteps
-- a step that isn't recorded leaves the machine
mod UnrecordedSteps
-- the transaction that Busy names is the least in the way
mod LeastHolder
-- the machine that a log stands for
pub mod MachineOfLog
-- it runs as the machine with a log does
mod MachineRunsAsLog
-- it is that of its history
pub mod MachineOfHistory
-- each step answers as the history says
mod AnswersAreReplies
-- what holds of the machine with a log after any steps
mod AfterSteps
-- the history never outgrows its bound
mod HistoryBound
-- open transactions unwind as the history has them
mod Unwinding
-- the machine is serial, and faithful to its history
mod SerialAndFaithful
-- where it is faithful, going back succeeds exactly, and other transactions and commits stay
mod GoingBack
-- all that after any requests of any sessions
pub mod Theorem
-- what was committed, script by script
pub mod CommittedScripts
-- where the commands of committed scripts have their records
pub mod CommittedPlaces
-- each record is of one script at most, and the trees of the commits go on by its commands
pub mod CommitsByCommands
-- a session has one open transaction at most
pub mod OneTransactionEach
-- the aborts at the end of a schedule
pub mod AbortsAtTheEnd
-- what a step changes, and what it leaves
pub mod MovesOfSteps
-- an abort gives back the tree of its begin, where no other session changed it in between
pub mod AbortsRestore
-- sessions under other numbers are answered alike
pub mod Renumbering
-- a command that nothing later clashes with drops out of a run
pub mod DroppingOut
-- the newest command of an open transaction is such a one
pub mod NewestClashesWithNone
-- open transactions are pulled to the front, one after another
pub mod PullingToTheFront
