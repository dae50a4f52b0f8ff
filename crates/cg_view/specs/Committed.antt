-- The operations of the committed scripts of a history.
use Rattle.std.specs.Prelude.{ℕ, zero, suc, ◌+◌, List, [], ◌∷◌, ◌++◌, map, Option, Some, None}
use Rattle.cg_command.specs.Meaning.{command_of}
use Rattle.cg_core_laws.specs.CommittedCommands.{script_commands}
use Rattle.cg_model.specs.Cgroups.{cgroups}
use Rattle.cg_model.specs.Command.{Command}
use Rattle.cg_model.specs.History.{History}
use Rattle.cg_model.specs.Opens.{commits}
use Rattle.cg_view.specs.declared.operation.Operation.{Operation}
use Rattle.cg_view.specs.declared.operation.Operation.TheVariants.{Does, Ends}

-- the command of an operation; none at the end of a script
abbrev pub meant : Operation → Option Command
meant (Does c) = Some (command_of c)
meant Ends = None

-- the operations of the k-th committed script: its commands, and its end
abbrev pub script_operations : ℕ → History cgroups → List (Option Command)
script_operations k h = map Some (script_commands k h) ++ None ∷ []

-- those of n scripts behind the first k
abbrev pub scripts_behind : ℕ → ℕ → History cgroups → List (Option Command)
scripts_behind k zero h = []
scripts_behind k (suc n) h = script_operations (k + 1) h ++ scripts_behind (k + 1) n h

-- those of all committed scripts, in commit order
abbrev pub operations_of : History cgroups → List (Option Command)
operations_of h = scripts_behind 0 (commits h) h
