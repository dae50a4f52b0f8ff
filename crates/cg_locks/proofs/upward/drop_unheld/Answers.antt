use Rattle.cg_locks.proofs.HeldMaps.{cleared_alike}
use Rattle.cg_locks.proofs.upward.drop_unheld.Goals as goal

pub returns-then-is_free : goal.returns-then-is_free
returns-then-is_free c = cleared_alike c.args.nodes.now.values c.clear.new.self.values (c.is_free.ensures c.if-is_free.true) c.clear.ensures.values
