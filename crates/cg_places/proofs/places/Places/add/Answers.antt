-- The new process has the next number, and the new cell on top of its group's stack.
use Rattle.std.proofs.Common.{◌≡◌, ◌<◌, ◌++◌, ◌∷◌, [], ℕ, List, Some, cond, length, map, nat_eq, nat_cmp, sym, ap, subst, ◌∙◌, arith}
use Rattle.cg_maps.specs.FiniteMap.{from_entries}
use Rattle.cg_places.specs.declared.seats.Process.{Process}
use Rattle.cg_places.specs.declared.seats.Stack.{Stack}
use Rattle.cg_places.specs.Seats.{who, AreSeated}
use Rattle.cg_places.specs.Placed.{number_of, ArePlaced}
use Rattle.cg_places.proofs.Placing.{refilled, absent_number, placed-added, places-added}
use Rattle.cg_places.proofs.places.Places.add.Goals as goal

pub invariant_of-self-2 : goal.invariant_of-self-2
invariant_of-self-2 c =
    let t = c.self.inside in
    let ps = t.processes.items in
    let p : Process = record { pid = c.args.pid; group = c.args.group; cell = length ps } in
    let is : c.in_ok-number.number ≡ length ps = c.in_ok-number.ensures.value ∙ c.len.ensures ∙ t.processes.ok.0 in
    let low : length ps < 4294967294 = omega (arith, is, c.in_ok-number.ensures.below) in
    let absent = absent_number t.numbers.entries t.processes.items t.cells.items t.stacks.items c.self.invariant c.args.self.now c.self.view_is c.args.pid c.requires.absent in
    let updates : (q : ℕ) → number_of c.insert.new.self.entries q ≡ cond (nat_eq c.args.pid q) (Some (length ps)) (number_of t.numbers.entries q) = λ q. c.in_ok-insert.ensures.updates.0 q ∙ ap (λ n. cond (nat_eq c.args.pid q) (Some n) (number_of t.numbers.entries q)) is in
    let processes : c.join.new.processes.items ≡ ps ++ p ∷ [] = c.join.ensures.processes ∙ ap (λ (xs : List Process). xs ++ record { pid = c.args.pid; group = c.args.group; cell = length xs } ∷ []) c.reserve.ensures.items in
    let seated = subst (λ xs. AreSeated xs c.join.new.cells.items c.join.new.stacks) processes c.join.ensures.seated in
    let placed = placed-added t.numbers.entries c.insert.new.self.entries ps t.cells.items c.join.new.cells.items t.stacks.items c.join.new.stacks c.self.invariant p absent updates seated low in
    let stacks = refilled t.stacks.len c.join.new.stacks t.stacks.items t.stacks.ok.0 (c.join.ensures.length ∙ ap length c.deref_mut.ensures.value) in
    subst (λ (x : List Process × List Stack). ArePlaced c.insert.new.self.entries x.0 c.join.new.cells.items x.1) (λ i. (sym processes i, sym stacks i)) placed

pub returns-clause-places : goal.returns-clause-places
returns-clause-places c =
    let t = c.self.inside in
    let ps = t.processes.items in
    let p : Process = record { pid = c.args.pid; group = c.args.group; cell = length ps } in
    let is : c.in_ok-number.number ≡ length ps = c.in_ok-number.ensures.value ∙ c.len.ensures ∙ t.processes.ok.0 in
    let low : length ps < 4294967294 = omega (arith, is, c.in_ok-number.ensures.below) in
    let absent = absent_number t.numbers.entries t.processes.items t.cells.items t.stacks.items c.self.invariant c.args.self.now c.self.view_is c.args.pid c.requires.absent in
    let updates : (q : ℕ) → number_of c.insert.new.self.entries q ≡ cond (nat_eq c.args.pid q) (Some (length ps)) (number_of t.numbers.entries q) = λ q. c.in_ok-insert.ensures.updates.0 q ∙ ap (λ n. cond (nat_eq c.args.pid q) (Some n) (number_of t.numbers.entries q)) is in
    let processes : c.join.new.processes.items ≡ ps ++ p ∷ [] = c.join.ensures.processes ∙ ap (λ (xs : List Process). xs ++ record { pid = c.args.pid; group = c.args.group; cell = length xs } ∷ []) c.reserve.ensures.items in
    let seated = subst (λ xs. AreSeated xs c.join.new.cells.items c.join.new.stacks) processes c.join.ensures.seated in
    ap (λ xs. from_entries nat_cmp (map who xs)) processes
    ∙ places-added t.numbers.entries c.insert.new.self.entries ps t.cells.items c.join.new.cells.items t.stacks.items c.join.new.stacks c.self.invariant p absent updates seated low c.args.self.now c.self.view_is
