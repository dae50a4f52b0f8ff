-- Lists of CPU numbers.
use Rattle.std.proofs.Common.{◌≡◌, ℕ, ◌≤◌, true, false, not, refl, sym, ap, subst, ◌∙◌, true≢false, inl, inr, [], ◌∷◌, length, arith, length-append}
use Rattle.std.specs.Prelude.{codes}
use Rattle.std.proofs.lemmas.Str.Parse.{digit_from_value}
use Rattle.cg_maps.specs.FiniteSet.{FiniteSet, has, is_empty_set, no_members}
use Rattle.cg_maps.proofs.Sets.{none_in_empty, members-no_members}
use Rattle.cg_maps.specs.FiniteMap.{is_nonempty}
use Rattle.cg_cpus.specs.CpuList.{IsCpuNumber, SpellsRange, IsElement, SpellsCpus}
use Rattle.cg_text.specs.Words.{Word}
use Rattle.cg_world_text.specs.Statement.{SpellsSomeCpus}

-- a set with a member isn't empty
pub filled : (s : FiniteSet) (n : ℕ) → has s n ≡ true → is_empty_set s ≡ false
filled s n e = elim (is_empty_set s) as (λ b. is_empty_set s ≡ b → b ≡ false) [
  | true ↦ λ f. absurd (true≢false (sym e ∙ none_in_empty s f n))
  | false ↦ λ f. refl
] refl

-- the empty set has no CPU
pub some_cpus : (most : ℕ) (w : Word) (s : FiniteSet) → SpellsSomeCpus most w s → s ≡ no_members → ⊥
some_cpus most w s h e = true≢false (sym (ap (λ ns. not (is_nonempty ns)) members-no_members) ∙ ap is_empty_set (sym e) ∙ h.1)

-- and a set has one where it has a greatest
pub spells_some : (most : ℕ) (w : Word) (s : FiniteSet) (last : ℕ) → SpellsCpus w s → has s last ≡ true → ((n : ℕ) → has s n ≡ true → n ≤ last) → last ≤ most → SpellsSomeCpus most w s
spells_some most w s last e m g l = (e, filled s last m, λ n k. omega (arith, g n k))

-- a minus is no element
no_number : (n : ℕ) → IsCpuNumber (45 ∷ []) n → ⊥
no_number n h = let d = digit_from_value 45 h.0.1.0 in omega (arith, d.0)

no_element : IsElement (45 ∷ []) → ⊥
no_element h = at h.2
  where
    at : SpellsRange (45 ∷ []) h.0 h.1 → ⊥
    at (inl k) = no_number h.0 k.0
    at (inr k) = omega (arith, k.3.0.0, k.4.0.0, ap length k.2, length-append k.0 (45 ∷ k.1))

-- and no list
pub minus_no_list : (w : Word) (s : FiniteSet) → w ≡ codes "-" → SpellsCpus w s → ⊥
minus_no_list w s e h =
    let k = subst (λ v. SpellsCpus v s) e h in
    no_element (k.0 0 [] (omega arith))
