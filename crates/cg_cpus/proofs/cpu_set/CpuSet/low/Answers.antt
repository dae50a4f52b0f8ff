use Rattle.std.proofs.Common.{◌≡◌, ℕ, ◌≤◌, ◌==◌, IsTrue, drop, rules, tests, arith, sym, subst, ◌∙◌}
use Rattle.std.proofs.lemmas.Iterator.{YieldsList-from_slice}
use Rattle.std.proofs.lemmas.Iterator.Search.{all_from_yields_List}
use Rattle.std.proofs.lemmas.Slice.{between_to_end}
use Rattle.cg_maps.specs.FiniteSet.{has}
use Rattle.cg_cpus.proofs.Low.{low_of, other_member}
use Rattle.cg_cpus.proofs.cpu_set.CpuSet.low.Goals as goal

pub returns-then-all-clause-value : goal.returns-then-all-clause-value
returns-then-all-clause-value c =
    let words = c.self.inside.words in
    let others : c.iter.result.rest.now ≡ drop 1 words = c.iter.ensures.rest ∙ between_to_end words 1 16 (omega (arith, c.self.invariant.count)) in
    let tested = all_from_yields_List (λ w. w == 0) _ _ _ c.all.ensures.ran (YieldsList-from_slice (drop 1 words) others) (λ x b q k. search (rules, tests)) in
    sym c.self.view_is ∙ low_of words c.self.invariant (sym tested ∙ c.if-all.true)

pub returns-else-all-clause-none : goal.returns-else-all-clause-none
returns-else-all-clause-none c =
    let words = c.self.inside.words in
    let others : c.iter.result.rest.now ≡ drop 1 words = c.iter.ensures.rest ∙ between_to_end words 1 16 (omega (arith, c.self.invariant.count)) in
    let tested = all_from_yields_List (λ w. w == 0) _ _ _ c.all.ensures.ran (YieldsList-from_slice (drop 1 words) others) (λ x b q k. search (rules, tests)) in
    subst (λ s. (n : ℕ) × IsTrue (has s n) × (64 ≤ n)) c.self.view_is (other_member words c.self.invariant (sym tested ∙ c.if-all.false))
