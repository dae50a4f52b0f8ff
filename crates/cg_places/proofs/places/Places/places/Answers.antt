-- All processes, in the order of their PIDs.
use Rattle.std.proofs.Common.{rules, ◌≡◌, List, ℕ, map, sym, ap, subst, ◌∙◌, arith}
use Rattle.std.specs.List.Sorted.{IsPermutation}
use Rattle.std.proofs.lemmas.List.Sorted.{answers_always}
use Rattle.cg_maps.specs.FiniteMap.{entries}
use Rattle.cg_places.specs.Located.{Located}
use Rattle.cg_places.specs.Seats.{who}
use Rattle.cg_places.proofs.Placing.{once}
use Rattle.cg_places.proofs.Ordering.{sorted_entries}
use Rattle.cg_places.proofs.Walking.{take_all}
use Rattle.cg_places.proofs.places.Places.places.Goals as goal

pub returns : goal.returns
returns c =
    let t = c.self.inside in
    let es : List (ℕ × ℕ) = map who t.processes.items in
    let all : c.loop-process.all.items ≡ es = c.loop-process.invariant ∙ ap (map who) (take_all c.loop-process.process-index c.deref-process-items.result.now (omega arith) ∙ c.deref-process-items.ensures.value) in
    sorted_entries es c.sort_unstable_by_key.new.self.items (once t.numbers.entries t.processes.items t.cells.items t.stacks.items c.self.invariant)
    (subst (λ xs. IsPermutation xs c.sort_unstable_by_key.new.self.items) all c.sort_unstable_by_key.ensures.permutation)
    (c.sort_unstable_by_key.ensures.sorted (λ e. e.0) (answers_always _ _ _ (λ f a r g h. search rules)))
    ∙ ap (λ (v : Located). entries v.places) c.self.view_is
