-- Those behind are of other parts.
use Rattle.std.proofs.Common.{◌≡◌, ℕ, ◌<◌, ◌≤◌, length, get_or, false}
use Rattle.cg_locks.specs.declared.held.Part.TheVariants.{ChangedAt}
use Rattle.cg_locks.specs.Held.{same_part}
use Rattle.cg_locks.proofs.Others.{entry}
use Rattle.cg_locks.proofs.other_holders.is_youngest.Given as goal

abbrev pub invariant-loop-i : goal.invariant-loop-i
invariant-loop-i l = (k : ℕ) → l.i ≤ k → k < length l.others → same_part l.part (get_or l.others k (entry ChangedAt 0 0)).part ≡ false
