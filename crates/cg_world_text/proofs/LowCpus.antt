-- Sets whose numbers fit version 1.
use Rattle.std.proofs.Common.{◌≡◌, ℕ, ◌≤◌, Bool, true, false, nat_le, ◌==◌, ◌||◌, ◌&&◌, List, [], ◌∷◌, refl, sym, ap, ◌∙◌, true≢false, eq-eqb, arith}
use Rattle.std.specs.List.{list_all, list_any}
use Rattle.std.specs.Cmp.Derive.{both_true}
use Rattle.std.proofs.lemmas.Bool.{and_parts}
use Rattle.std.proofs.lemmas.Bool.Decides.{nat_tests}
use Rattle.cg_maps.specs.FiniteSet.{FiniteSet, has, members, no_members}
use Rattle.cg_maps.proofs.Sets.{has-members, members-no_members}
use Rattle.cg_world.specs.Representable.{AreCpusUpTo}
use Rattle.cg_world_text.specs.World.{cpus_fit_one}

or_true : (b : Bool) → (b || true) ≡ true
or_true true = refl
or_true false = refl

-- the numbers of a list are low where each is
listed : (ns : List ℕ) (n : ℕ) → list_all (λ m. nat_le m 127) ns ≡ true → list_any (λ m. n == m) ns ≡ true → n ≤ 127
listed [] n h e = absurd (true≢false (sym e))
listed (m ∷ ns) n h e = elim (n == m) as (λ b. (n == m) ≡ b → (b || list_any (λ k. n == k) ns) ≡ true → n ≤ 127) [
  | true ↦ λ is _. let low : nat_le m 127 ≡ true = (and_parts (nat_le m 127) _ h).0 in grind (arith, nat_tests)
  | false ↦ λ is rest. listed ns n (and_parts (nat_le m 127) _ h).1 rest
] refl e

pub fits_up_to : (s : FiniteSet) → cpus_fit_one s ≡ true → AreCpusUpTo 127 s
fits_up_to s h n k = listed (members s) n h (sym (has-members s n) ∙ k)

each_low : (ns : List ℕ) → ((n : ℕ) → list_any (λ m. n == m) ns ≡ true → n ≤ 127) → list_all (λ m. nat_le m 127) ns ≡ true
each_low [] h = refl
each_low (m ∷ ns) h =
    let first : m ≤ 127 = h m (ap (λ b. b || list_any (λ k. m == k) ns) (eq-eqb m m refl)) in
    let low : nat_le m 127 ≡ true = grind (arith, nat_tests) in
    both_true low (each_low ns (λ n e. h n (ap (λ b. (n == m) || b) e ∙ or_true (n == m))))

pub fits_one : (s : FiniteSet) → AreCpusUpTo 127 s → cpus_fit_one s ≡ true
fits_one s h = each_low (members s) (λ n e. h n (has-members s n ∙ e))

-- a set fits where its greatest number does
pub fits_by_last : (s : FiniteSet) (last : ℕ) → has s last ≡ true → ((n : ℕ) → has s n ≡ true → n ≤ last) → nat_le last 127 ≡ cpus_fit_one s
fits_by_last s last m g = elim (cpus_fit_one s) as (λ b. cpus_fit_one s ≡ b → nat_le last 127 ≡ b) [
  | true ↦ λ e. let low : last ≤ 127 = fits_up_to s e last m in grind (arith, nat_tests)
  | false ↦ λ e. elim (nat_le last 127) as (λ b. nat_le last 127 ≡ b → b ≡ false) [
    | true ↦ λ l. let low : last ≤ 127 = grind (arith, nat_tests) in absurd (true≢false (sym (fits_one s (λ n k. omega (arith, g n k, low))) ∙ e))
    | false ↦ λ l. refl
  ] refl
] refl

-- a test of all that fails, or passes, at the first
pub all_behind_one : {X : Type 0} (p : X → Bool) (es fs : List X) (e : X) (b : Bool) → es ≡ e ∷ fs → p e ≡ b → list_all p es ≡ (b && list_all p fs)
all_behind_one p es fs e b is first = ap (list_all p) is ∙ ap (λ t. t && list_all p fs) first

pub none_fits : (s : FiniteSet) → s ≡ no_members → true ≡ cpus_fit_one s
none_fits s e = sym (ap (λ ns. list_all (λ m. nat_le m 127) ns) (ap members e ∙ members-no_members))
