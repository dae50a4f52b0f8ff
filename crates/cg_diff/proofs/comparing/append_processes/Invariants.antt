use Rattle.std.specs.Prelude.{◌≡◌, ◌++◌}
use Rattle.std.specs.List.{flat_map}
use Rattle.cg_diff.specs.Sides.{process_side}
use Rattle.cg_diff.proofs.comparing.append_processes.Given as goal

-- what is told of the processes that were passed
abbrev pub invariant-loop-side : goal.invariant-loop-side
invariant-loop-side l = l.out.items ≡ l.initial.out.items ++ flat_map process_side l.yielded
