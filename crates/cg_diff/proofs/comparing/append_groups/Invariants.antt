use Rattle.std.specs.Prelude.{◌≡◌, ◌++◌}
use Rattle.std.specs.List.{flat_map}
use Rattle.cg_diff.specs.Sides.{group_side}
use Rattle.cg_diff.proofs.comparing.append_groups.Given as goal

-- what is told of the groups that were passed
abbrev pub invariant-loop-side : goal.invariant-loop-side
invariant-loop-side l = l.out.items ≡ l.initial.out.items ++ flat_map (group_side l.old l.new) l.yielded
