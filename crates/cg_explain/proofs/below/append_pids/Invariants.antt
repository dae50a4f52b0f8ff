use Rattle.std.specs.Prelude.{◌≡◌, ◌++◌, take}
use Rattle.std.specs.List.{flat_map}
use Rattle.cg_explain.specs.Notes.{spaced_pid}
use Rattle.cg_explain.proofs.below.append_pids.Given as goal

-- the PIDs that were passed
abbrev pub invariant-loop-pid : goal.invariant-loop-pid
invariant-loop-pid l = l.out.items ≡ l.fn.out.items ++ flat_map spaced_pid (take l.pid-index l.pids)
