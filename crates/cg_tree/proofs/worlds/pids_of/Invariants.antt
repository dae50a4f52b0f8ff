use Rattle.std.proofs.Common.{◌≡◌, ◌++◌}
use Rattle.std.specs.Map.{keys_of}
use Rattle.cg_tree.proofs.worlds.pids_of.Given as goal

-- the PIDs so far and those that are left are all of them
abbrev pub invariant-loop-pid : goal.invariant-loop-pid
invariant-loop-pid l = l.pids.items ++ keys_of l.pid-iterator ≡ keys_of l.places.entries
