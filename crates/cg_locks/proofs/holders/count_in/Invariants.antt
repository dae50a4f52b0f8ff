-- It isn't among those so far.
use Rattle.std.proofs.Common.{◌≡◌, drop}
use Rattle.std.specs.FinMap.Entries.{find}
use Rattle.std.specs.Ordering.{nat_cmp}
use Rattle.cg_locks.proofs.holders.count_in.Given as goal

abbrev pub invariant-loop-holder : goal.invariant-loop-holder
invariant-loop-holder l = find nat_cmp l.transaction l.entries ≡ find nat_cmp l.transaction (drop l.holder-index l.entries)
