use Rattle.std.proofs.Common.{◌≡◌, ℕ, ◌<◌, ◌≤◌, ◌↔◌, ◌⊎◌, IsTrue, List, [], ◌∷◌, sym, subst}
use Rattle.std.proofs.lemmas.Result.{IfOk-weaker}
use Rattle.cg_maps.specs.FiniteSet.{FiniteSet, has, no_members}
use Rattle.cg_cpus.specs.CpuList.{SpellsCpus, SpellsElements, SpellsRange, SpellsTrimmed}
use Rattle.cg_cpus.proofs.Bytes.{cut, element_bytes, element_nonempty, untrimmed}
use Rattle.cg_cpus.proofs.Grammar.{none_spelled, one_more_spelled, spelled, spelled_below}
use Rattle.cg_cpus.proofs.list.read.Goals as goal

-- a text that is one element spells the set of its range
one_spelled : (e : List ℕ) (first last : ℕ) (none s : FiniteSet) → SpellsRange e first last → none ≡ no_members
    → ((n : ℕ) → IsTrue (has s n) ↔ (IsTrue (has none n) ⊎ ((first ≤ n) × (n ≤ last)))) → SpellsCpus e s
one_spelled e first last none s r empty more =
    let bytes = element_bytes e first last r in
    subst (λ bs. SpellsTrimmed bs s) (sym (untrimmed (e ∷ []) (bytes, tt)))
    (spelled e s (element_nonempty e first last r)
    (subst (λ es. SpellsElements es s) (sym (cut e [] (bytes, tt)))
    (one_more_spelled [] e none s first last (subst (SpellsElements []) (sym empty) none_spelled) r more)))

pub returns-in-Some-clause-value : goal.returns-in-Some-clause-value
returns-in-Some-clause-value c = one_spelled c.args.text.now c.in-Some.first c.in-Some.last c.empty-set.result c.insert_range.new.self (subst (λ bs. SpellsRange bs c.in-Some.first c.in-Some.last) c.as_bytes.ensures.value c.in-Some.ensures) c.empty-set.ensures c.insert_range.ensures

pub returns-in-Some-clause-below : goal.returns-in-Some-clause-below
returns-in-Some-clause-below c = spelled_below _ c.insert_range.new.self (returns-in-Some-clause-value c)

pub returns-clause-below : goal.returns-clause-below
returns-clause-below c =
    IfOk-weaker c.read_elements.result (SpellsTrimmed c.trim.result.now) (λ s. (n : ℕ) → IsTrue (has s n) → n < 1024) (spelled_below c.trim.result.now) c.read_elements.ensures.value
