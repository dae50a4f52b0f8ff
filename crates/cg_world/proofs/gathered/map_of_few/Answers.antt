use Rattle.cg_world.proofs.Taken.{one_more}
use Rattle.cg_world.proofs.gathered.map_of_few.Goals as goal

pub loop-key-preserved-in_ok-insert : goal.loop-key-preserved-in_ok-insert
loop-key-preserved-in_ok-insert g c =
    one_more g.met.K.Ord.total c.args.run.items c.loop-key.run.items c.pop.new.self.items c.loop-key.map c.insert.new.self c.in-Some.key c.in-Some.value c.in-Some.ensures.items c.in_ok-insert.ensures.updates c.loop-key.invariant

pub loop-key-preserved : goal.loop-key-preserved
loop-key-preserved g c =
    one_more g.met.K.Ord.total c.args.run.items c.loop-key.run.items c.pop.new.self.items c.loop-key.map c.insert.new.self c.in-Some.key c.in-Some.value c.in-Some.ensures.items c.in_ok-insert.ensures.updates c.loop-key.invariant
