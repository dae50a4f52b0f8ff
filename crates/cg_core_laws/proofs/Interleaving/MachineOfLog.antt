-- The machine of a machine with a log: its stacks are read off the log.
use Rattle.std.specs.Prelude.{List, [], ◌∷◌}
use Rattle.cg_model.specs.System.{System}
use Rattle.cg_model.specs.Opens.{Opens}
use Rattle.cg_model.specs.Machine.{StackEntry, Transaction, Machine}
use Rattle.cg_core_laws.proofs.Interleaving.RunsOfStackEntries.{only}
use Rattle.cg_core_laws.proofs.Interleaving.LogMachine.{Log}

-- the open transactions with their stacks
abbrev pub stacks_of : {y : System} → Opens → List (StackEntry y) → List (Transaction y)
stacks_of [] log = []
stacks_of (p ∷ ps) log = record { session = p.0; number = p.1; stack = only p.1 log } ∷ stacks_of ps log

abbrev pub machine_of : {y : System} → Log y → Machine y
machine_of c = record { tree = c.tree; transactions = stacks_of c.opens c.log; begun = c.begun; commits = c.commits; history = c.history; bound = c.bound }
