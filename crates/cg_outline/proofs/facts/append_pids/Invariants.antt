use Rattle.std.specs.Prelude.{◌≡◌, ◌++◌, take}
use Rattle.std.specs.List.{flat_map}
use Rattle.cg_outline.specs.Outline.{spaced_pid}
use Rattle.cg_outline.proofs.facts.append_pids.Given as goal

-- the PIDs that were passed
abbrev pub invariant-loop-pid : goal.invariant-loop-pid
invariant-loop-pid l = l.out.items ≡ l.fn.out.items ++ flat_map spaced_pid (take l.pid-index l.pids)
