-- The new node holds nothing.
use Rattle.cg_locks.proofs.Keys.{absent_value}
use Rattle.cg_locks.proofs.HeldMaps.{made_alike}
use Rattle.cg_locks.proofs.upward.put.Goals as goal

pub returns-clause-held : goal.returns-clause-held
returns-clause-held c =
    made_alike c.args.nodes.now.values c.add_below.new.self.values c.args.path.now c.new.result (absent_value c.args.nodes.now c.args.path.now (c.laws.ensures.both c.args.path.now) c.requires.absent) c.in_ok-key.ensures.values c.new.ensures
