use Rattle.std.proofs.Common.{refl}
use Rattle.cg_locks.proofs.HeldParts.{nobody, none_kept}
use Rattle.cg_locks.proofs.held.Held.new.Goals as goal

pub invariant_of-result : goal.invariant_of-result
invariant_of-result c = none_kept c.new.result c.new-2.result.items c.new.ensures c.new-2.ensures.items

pub returns : goal.returns
returns c = nobody c.new.result c.new-2.result.items (none_kept c.new.result c.new-2.result.items c.new.ensures c.new-2.ensures.items) _ refl c.new.ensures
