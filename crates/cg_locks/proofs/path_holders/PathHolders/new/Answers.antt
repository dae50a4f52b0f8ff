use Rattle.std.proofs.Common.{refl}
use Rattle.cg_locks.specs.HeldByPath.{marked}
use Rattle.cg_locks.proofs.Seen.{nothing_summed, nowhere, seen_nowhere}
use Rattle.cg_locks.proofs.path_holders.PathHolders.new.Goals as goal

pub invariant_of-result : goal.invariant_of-result
invariant_of-result c = nothing_summed c.new.result.values c.new.ensures.values

pub returns : goal.returns
returns c = λ k p u. seen_nowhere k c.new.result.values (marked c.new.result.values) refl p u (nowhere c.new.result.values c.new.ensures.values p)
