-- What was added, and what the groups that are left add, is all.
use Rattle.std.proofs.Common.{◌≡◌, ◌++◌}
use Rattle.cg_locks.specs.Counts.{limited_depths}
use Rattle.cg_locks.proofs.footprint.push_limited.Given as goal

abbrev pub invariant-loop-group : goal.invariant-loop-group
invariant-loop-group l = l.depths.items ++ limited_depths l.group-iterator ≡ l.fn.depths.items ++ limited_depths l.fn.above
