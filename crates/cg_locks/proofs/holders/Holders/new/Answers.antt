use Rattle.std.proofs.Common.{ap, unwrap_or}
use Rattle.std.specs.Ordering.{nat_cmp}
use Rattle.cg_maps.proofs.Maps.{get-empty}
use Rattle.cg_locks.proofs.Firsts.{none_yet}
use Rattle.cg_locks.proofs.holders.Holders.new.Goals as goal

pub invariant_of-result : goal.invariant_of-result
invariant_of-result c = none_yet 0 c.new.result.items c.new.ensures.items

pub returns : goal.returns
returns c = λ u. ap (λ r. unwrap_or r 0) (get-empty nat_cmp u)
