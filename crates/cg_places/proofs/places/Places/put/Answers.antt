-- The process goes to the other group, and all others stay.
use Rattle.std.proofs.Common.{◌≡◌, List, Some, None, length, map, take, drop, ◌++◌, option_copied, option_map, slice_get, is_some, nat_cmp, sym, ap, subst, ◌∙◌, arith, true≢false}
use Rattle.cg_maps.specs.FiniteMap.{from_entries, get, set_at}
use Rattle.cg_places.specs.declared.seats.Process.{Process}
use Rattle.cg_places.specs.declared.seats.Cell.{Cell}
use Rattle.cg_places.specs.declared.seats.Stack.{Stack}
use Rattle.cg_places.specs.Located.{Located}
use Rattle.cg_places.specs.Seats.{who}
use Rattle.cg_places.specs.Placed.{ArePlaced}
use Rattle.cg_places.proofs.Lists.{some_not_none}
use Rattle.cg_places.proofs.Placing.{refilled, seen_none, seen_some, number_within, placed-put, places-put}
use Rattle.cg_places.proofs.places.Places.put.Goals as goal

pub returns-in_default-clause-places : goal.returns-in_default-clause-places
returns-in_default-clause-places c some =
    let t = c.self.inside in
    let none = sym c.get.ensures.value ∙ sym c.copied.ensures ∙ c.in_default.is in
    absurd (true≢false (sym some ∙ ap is_some (seen_none t.numbers.entries t.processes.items t.cells.items t.stacks.items c.self.invariant c.args.self.now c.self.view_is c.args.pid none)))

pub carry-requires-clause-number : goal.carry-requires-clause-number
carry-requires-clause-number c =
    let t = c.self.inside in
    let is = sym c.get.ensures.value ∙ sym c.copied.ensures ∙ c.in-Some.is in
    omega (arith, number_within t.numbers.entries t.processes.items t.cells.items t.stacks.items c.self.invariant c.args.pid c.in-Some.number is, ap length c.deref_mut.ensures.value)

pub invariant_of-self : goal.invariant_of-self
invariant_of-self c =
    let t = c.self.inside in
    let is = sym c.get.ensures.value ∙ sym c.copied.ensures ∙ c.in-Some.is in
    let many : length c.carry.new.processes ≡ length t.processes.items = c.carry.ensures.lengths.0 ∙ ap length c.deref_mut.ensures.value in
    let placed = placed-put t.numbers.entries t.processes.items t.cells.items t.stacks.items c.self.invariant c.carry.new.processes c.carry.new.cells c.carry.new.stacks c.carry.ensures.seated c.args.pid c.in-Some.number c.args.group is
    (λ p at. c.carry.ensures.moved p (ap (λ xs. slice_get xs c.in-Some.number) c.deref_mut.ensures.value ∙ at))
    (λ j ne. c.carry.ensures.others j ne ∙ ap (λ xs. option_map who (slice_get xs j)) c.deref_mut.ensures.value) many in
    let processes = refilled t.processes.len c.carry.new.processes t.processes.items t.processes.ok.0 many in
    let cells = refilled t.cells.len c.carry.new.cells t.cells.items t.cells.ok.0 (c.carry.ensures.seated.seats.many ∙ many ∙ sym c.self.invariant.seated.seats.many) in
    let stacks = refilled t.stacks.len c.carry.new.stacks t.stacks.items t.stacks.ok.0 (c.carry.ensures.lengths.1 ∙ ap length c.deref_mut-3.ensures.value) in
    subst (λ (x : List Process × (List Cell × List Stack)). ArePlaced t.numbers.entries x.0 x.1.0 x.1.1) (λ i. (sym processes i, (sym cells i, sym stacks i))) placed

pub returns-clause-absent : goal.returns-clause-absent
returns-clause-absent c none =
    let t = c.self.inside in
    let is = sym c.get.ensures.value ∙ sym c.copied.ensures ∙ c.in-Some.is in
    let p = seen_some t.numbers.entries t.processes.items t.cells.items t.stacks.items c.self.invariant c.args.self.now c.self.view_is c.args.pid c.in-Some.number is in
    absurd (some_not_none p.0.group (get c.args.self.now.places c.args.pid) p.2 none)

pub returns-clause-places : goal.returns-clause-places
returns-clause-places c some =
    let t = c.self.inside in
    let is = sym c.get.ensures.value ∙ sym c.copied.ensures ∙ c.in-Some.is in
    let many : length c.carry.new.processes ≡ length t.processes.items = c.carry.ensures.lengths.0 ∙ ap length c.deref_mut.ensures.value in
    ap (λ xs. from_entries nat_cmp (map who xs)) (refilled t.processes.len c.carry.new.processes t.processes.items t.processes.ok.0 many)
    ∙ places-put t.numbers.entries t.processes.items t.cells.items t.stacks.items c.self.invariant c.carry.new.processes c.carry.new.cells c.carry.new.stacks c.carry.ensures.seated c.args.pid c.in-Some.number c.args.group is
    (λ p at. c.carry.ensures.moved p (ap (λ xs. slice_get xs c.in-Some.number) c.deref_mut.ensures.value ∙ at))
    (λ j ne. c.carry.ensures.others j ne ∙ ap (λ xs. option_map who (slice_get xs j)) c.deref_mut.ensures.value) many
    ∙ ap (λ (v : Located). set_at v.places c.args.pid (Some c.args.group)) c.self.view_is
