-- Sets of CPUs, by how they are kept.
use Rattle.std.proofs.Common.{◌≡◌, ℕ, ◌^◌, ◌<◌, ◌≤◌, true, false, IsTrue, nat_eq, refl, sym, ap, subst, ◌∙◌, true≢false, arith}
use Rattle.std.specs.Cmp.Lexicographic.{pointwise}
use Rattle.std.proofs.lemmas.Bool.Decides.{Decides-eqb, Decides-like, same_from_decides}
use Rattle.cg_maps.specs.FiniteSet.{FiniteSet, has, is_empty_set, members}
use Rattle.cg_maps.proofs.Sets.{none_in_empty}
use Rattle.cg_cpus.specs.Words.{low_set}
use Rattle.cg_cpus.proofs.Low.{low_below, same_low}
use Rattle.cg_boxed.proofs.Deciding.{sets_decide}

-- a set that has a number from 64 on
abbrev pub ReachesAbove : FiniteSet → Type 0
ReachesAbove s = (n : ℕ) × IsTrue (has s n) × (64 ≤ n)

pub not_empty : (s : FiniteSet) → ReachesAbove s → is_empty_set s ≡ false
not_empty s h = elim (is_empty_set s) as (λ b. is_empty_set s ≡ b → b ≡ false) [
  | true ↦ λ e. absurd (true≢false (sym h.1 ∙ none_in_empty s e h.0))
  | false ↦ λ e. refl
] refl

pub equal_low : (w v : ℕ) → w < 2 ^ 64 → v < 2 ^ 64 → nat_eq w v ≡ pointwise nat_eq (members (low_set w)) (members (low_set v))
equal_low w v p q = same_from_decides _ _ (Decides-like _ (λ e. ap low_set e) (same_low w v p q) (Decides-eqb w v)) (sets_decide (low_set w) (low_set v))

differ : (s t : FiniteSet) → (s ≡ t → ⊥) → false ≡ pointwise nat_eq (members s) (members t)
differ s t f = elim (pointwise nat_eq (members s) (members t)) as (λ b. pointwise nat_eq (members s) (members t) ≡ b → false ≡ b) [
  | true ↦ λ e. absurd (f ((sets_decide s t).0 e))
  | false ↦ λ e. refl
] refl

apart : (w : ℕ) (s : FiniteSet) → ReachesAbove s → low_set w ≡ s → ⊥
apart w s h e =
    let below = low_below w h.0 (subst (λ t. IsTrue (has t h.0)) (sym e) h.1) in
    omega (arith, below, h.2)

pub low_is_not_wide : (w : ℕ) (s : FiniteSet) → ReachesAbove s → false ≡ pointwise nat_eq (members (low_set w)) (members s)
low_is_not_wide w s h = differ (low_set w) s (apart w s h)

pub wide_is_not_low : (s : FiniteSet) (w : ℕ) → ReachesAbove s → false ≡ pointwise nat_eq (members s) (members (low_set w))
wide_is_not_low s w h = differ s (low_set w) (λ e. apart w s h (sym e))
