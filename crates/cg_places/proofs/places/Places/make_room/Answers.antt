-- The new groups are empty.
use Rattle.cg_places.proofs.Seating.{widened}
use Rattle.cg_places.proofs.places.Places.make_room.Goals as goal

pub invariant_of-self : goal.invariant_of-self
invariant_of-self c =
    let t = c.self.inside in
    let h = c.self.invariant in
    record {
      seated = widened t.processes.items t.cells.items t.stacks.items c.widen.new.stacks.items h.seated c.widen.ensures.longer c.widen.ensures.same c.widen.ensures.empty;
      known = h.known;
      named = h.named;
      few = h.few;
    }
