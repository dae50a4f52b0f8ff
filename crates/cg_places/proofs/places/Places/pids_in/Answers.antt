-- The PIDs of the group's stack, in order.
use Rattle.std.proofs.Common.{sym, subst}
use Rattle.cg_places.specs.Walks.{HaveOwnPids, AreTheirs}
use Rattle.cg_places.proofs.Placing.{own_pids, is_seen, seen_in}
use Rattle.cg_places.proofs.Walking.{in_order}
use Rattle.cg_places.proofs.places.Places.pids_in.Goals as goal

pub gather-requires-clause-pids : goal.gather-requires-clause-pids
gather-requires-clause-pids c =
    let t = c.self.inside in
    subst HaveOwnPids (sym c.deref.ensures.value) (own_pids t.numbers.entries t.processes.items t.cells.items t.stacks.items c.self.invariant)

pub returns : goal.returns
returns c =
    let t = c.self.inside in
    in_order c.args.self.now.places t.processes.items c.args.group c.in_ok-pids.pids.items c.sort_unstable.new.self.items
    (subst (λ xs. AreTheirs xs c.args.group c.in_ok-pids.pids.items) c.deref.ensures.value c.in_ok-pids.ensures)
    c.sort_unstable.ensures.permutation c.sort_unstable.ensures.sorted
    (is_seen t.numbers.entries t.processes.items t.cells.items t.stacks.items c.self.invariant c.args.self.now c.self.view_is) (λ pid at. seen_in t.numbers.entries t.processes.items t.cells.items t.stacks.items c.self.invariant c.args.self.now c.self.view_is pid c.args.group at)
