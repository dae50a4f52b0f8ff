-- Each turn puts the last change back.
use Rattle.std.proofs.Common.{◌∙◌}
use Rattle.cg_inverse.proofs.Going.{room_for_last, room_for_rest, last_back}
use Rattle.cg_inverse.proofs.inverse.put_all_before.Goals as goal

pub put_before-requires : goal.put_before-requires
put_before-requires c = room_for_last c.loop-change.tree c.loop-change.changes.items c.pop.new.self.items c.in-Some.change c.in-Some.ensures.items c.loop-change.invariant.room

pub loop-change-preserved : goal.loop-change-preserved
loop-change-preserved c =
    let back = last_back c.loop-change.tree c.loop-change.changes.items c.pop.new.self.items c.in-Some.change c.in-Some.ensures.items c.put_before.new.tree.tree c.put_before.ensures.tree in
    record {
      tree = back ∙ c.loop-change.invariant.tree;
      entries = c.put_before.ensures.entries ∙ c.loop-change.invariant.entries;
      room = room_for_rest c.loop-change.tree c.loop-change.changes.items c.pop.new.self.items c.in-Some.change c.in-Some.ensures.items c.put_before.new.tree c.put_before.ensures.entries c.loop-change.invariant.room;
    }
