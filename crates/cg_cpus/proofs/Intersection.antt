-- The words of two sets, in common.
use Rattle.std.proofs.Common.{◌≡◌, ◌≢◌, ◌↔◌, ℕ, suc, ◌+◌, ◌/◌, ◌%◌, ◌^◌, ◌<◌, ◌≤◌, Bool, true, false, ◌==◌, ◌&&◌, cond, nat_lt, List, [], ◌∷◌, length, get_or, set, bit_and, bit_or, min, refl, sym, ap, subst, ◌∙◌, arith}
use Rattle.std.specs.Int.{bit_at}
use Rattle.std.specs.Int.Bits.{and_lt, or_zero_l}
use Rattle.std.specs.List.{AllByRecursion}
use Rattle.std.proofs.lemmas.Nat.{le_or_l, le_or_r}
use Rattle.std.proofs.lemmas.Bool.{eqb-true, eq-eqb}
use Rattle.std.proofs.lemmas.Nat.Bits.{bit_at_and, bit_at-lt}
use Rattle.std.proofs.lemmas.Bool.Decides.{nat_tests}
use Rattle.std.proofs.lemmas.List.{get_or_past, get_or-set_same, get_or-set_other, length-set}
use Rattle.cg_maps.specs.FiniteSet.{FiniteSet, in_common, is_empty_set}
use Rattle.cg_maps.proofs.Sets.{same_set, has-in_common}
use Rattle.cg_cpus.specs.Words.{has_bit, set_in, AreWords}
use Rattle.cg_cpus.specs.WordsBack.{has-set_in}
use Rattle.cg_cpus.proofs.Bits.{all_zero, all_zeros, empty_test, none, set_in-zeros}
use Rattle.cg_cpus.proofs.Equal.{same_tests}

-- each word of ws is that of us and vs in common
abbrev pub AreCommon : List ℕ → List ℕ → List ℕ → Type 0
AreCommon ws us vs = (k : ℕ) → k < 16 → get_or ws k 0 ≡ bit_and (get_or us k 0) (get_or vs k 0)

pub both_bits : (a b : ℕ) → a < 2 → b < 2 → (min a b == 1) ≡ ((a == 1) && (b == 1))
both_bits a b l m = grind (arith, nat_tests)

share : (l a b : Bool) → (l && (a && b)) ≡ ((l && a) && (l && b))
share true a b = refl
share false a b = refl

pub common_words : (ws us vs : List ℕ) → length ws ≡ 16 → AreCommon ws us vs → AreWords us → AreWords vs → AreWords ws
common_words ws us vs l c h k = record {
  count = l;
  width = λ i. elim (nat_lt i 16) as (λ b. nat_lt i 16 ≡ b → get_or ws i 0 < 2 ^ 64) [
    | true ↦ λ e. let within : i < 16 = grind (arith, nat_tests) in subst (λ w. w < 2 ^ 64) (sym (c i within)) (and_lt 64 (get_or us i 0) (get_or vs i 0) (h.width i) (k.width i))
    | false ↦ λ e. let past : 16 ≤ i = grind (arith, nat_tests) in subst (λ w. w < 2 ^ 64) (sym (get_or_past ws i 0 (omega arith))) (omega arith)
  ] refl;
}

pub set_in-common : (ws us vs : List ℕ) → AreCommon ws us vs → set_in ws ≡ in_common (set_in us) (set_in vs)
set_in-common ws us vs c = same_set _ _ (λ n. has-set_in ws n ∙ both n ∙ sym (has-in_common (set_in us) (set_in vs) n ∙ (λ i. has-set_in us n i && has-set_in vs n i)))
  where
    bits : (n : ℕ) → n < 1024 → has_bit ws n ≡ (has_bit us n && has_bit vs n)
    bits n l =
        ap (λ w. bit_at w (n % 64) == 1) (c (n / 64) (omega arith))
        ∙ ap (λ b. b == 1) (bit_at_and (get_or us (n / 64) 0) (get_or vs (n / 64) 0) (n % 64))
        ∙ both_bits (bit_at (get_or us (n / 64) 0) (n % 64)) (bit_at (get_or vs (n / 64) 0) (n % 64)) (bit_at-lt (get_or us (n / 64) 0) (n % 64)) (bit_at-lt (get_or vs (n / 64) 0) (n % 64))

    both : (n : ℕ) → (nat_lt n 1024 && has_bit ws n) ≡ ((nat_lt n 1024 && has_bit us n) && (nat_lt n 1024 && has_bit vs n))
    both n = elim (nat_lt n 1024) as (λ b. nat_lt n 1024 ≡ b → (b && has_bit ws n) ≡ ((b && has_bit us n) && (b && has_bit vs n))) [
      | true ↦ λ e. let l : n < 1024 = grind (arith, nat_tests) in bits n l
      | false ↦ λ e. refl
    ] refl

-- ---- whether there is anything in common

-- these bits are none where the first n words have none
abbrev pub AreSeen : ℕ → List ℕ → ℕ → Type 0
AreSeen bits ws n = (bits ≡ 0) ↔ ((k : ℕ) → k < n → get_or ws k 0 ≡ 0)

pub seen_more : (bits : ℕ) (us ws : List ℕ) (n : ℕ) → ((k : ℕ) → k < n → get_or ws k 0 ≡ get_or us k 0) → AreSeen bits us n → AreSeen (bit_or bits (get_or ws n 0)) ws (n + 1)
seen_more bits us ws n same seen = (behind, before)
  where
    behind : bit_or bits (get_or ws n 0) ≡ 0 → (k : ℕ) → k < n + 1 → get_or ws k 0 ≡ 0
    behind nothing k l = elim (k == n) as (λ b. (k == n) ≡ b → get_or ws k 0 ≡ 0) [
      | true ↦ λ e.
          let here : get_or ws n 0 ≡ 0 = omega (arith, le_or_r bits (get_or ws n 0), nothing) in
          ap (λ j. get_or ws j 0) (eqb-true k n e) ∙ here
      | false ↦ λ e.
          let there : bits ≡ 0 = omega (arith, le_or_l bits (get_or ws n 0), nothing) in
          let earlier : k < n = grind (arith, nat_tests) in
          same k earlier ∙ seen.0 there k earlier
    ] refl

    before : ((k : ℕ) → k < n + 1 → get_or ws k 0 ≡ 0) → bit_or bits (get_or ws n 0) ≡ 0
    before nothing =
        let there : bits ≡ 0 = seen.1 (λ k l. sym (same k l) ∙ nothing k (omega (arith, l))) in
        (λ i. bit_or (there i) (nothing n (omega arith) i)) ∙ or_zero_l 0

zeros : (ws : List ℕ) → ((k : ℕ) → k < length ws → get_or ws k 0 ≡ 0) → AllByRecursion (λ w. w ≡ 0) ws
zeros [] f = tt
zeros (w ∷ ws) f = (f 0 (omega arith), zeros ws (λ k l. f (suc k) (omega (arith, l))))

-- the set is empty where none were seen in its words
empty_unseen : (bits : ℕ) (ws : List ℕ) (n : ℕ) → 16 ≤ n → AreWords ws → AreSeen bits ws n → (bits == 0) ≡ is_empty_set (set_in ws)
empty_unseen bits ws n all h seen =
    same_tests _ _
    (λ e. ap is_empty_set (set_in-zeros ws (zeros ws (λ k l. seen.0 (eqb-true bits 0 e) k (omega (arith, h.count, l, all))))) ∙ none)
    (λ e. eq-eqb bits 0 (seen.1 (λ k l. all_zero ws (all_zeros ws (empty_test ws h ∙ e)) k)))

-- what is left of a set that is narrowed, by bits that tell whether there is anything in common
module _ (s both : FiniteSet) (bits : ℕ) (test : (bits == 0) ≡ is_empty_set both) where
  pub some_left : (bits ≡ 0 → ⊥) → both ≡ cond (is_empty_set both) s both
  some_left some =
      let is : (bits == 0) ≡ false = grind (arith, nat_tests) in
      sym (ap (λ b. cond b s both) (sym test ∙ is))

  pub none_left : bits ≡ 0 → s ≡ cond (is_empty_set both) s both
  none_left none = sym (ap (λ b. cond b s both) (sym test ∙ eq-eqb bits 0 none))

-- ---- words that are narrowed, one after another

-- the first n of the words ws are those of us and vs in common, and the bits are theirs
pub record SoFar (bits : ℕ) (ws us vs : List ℕ) (n : ℕ) : Type 0 where
  pub count : length ws ≡ 16
  pub done : (k : ℕ) → k < n → get_or ws k 0 ≡ bit_and (get_or us k 0) (get_or vs k 0)
  pub left : (k : ℕ) → n ≤ k → get_or ws k 0 ≡ get_or us k 0
  pub seen : AreSeen bits ws n

pub none_so_far : (us vs : List ℕ) → length us ≡ 16 → SoFar 0 us us vs 0
none_so_far us vs l = record {
  count = l;
  done = λ k m. absurd (omega arith);
  left = λ k m. refl;
  seen = (λ e k m. absurd (omega arith), λ f. refl);
}

pub one_more : (bits : ℕ) (ws us vs : List ℕ) (n : ℕ) → n < 16 → SoFar bits ws us vs n →
    let after = set ws n (bit_and (get_or ws n 0) (get_or vs n 0)) in SoFar (bit_or bits (get_or after n 0)) after us vs (n + 1)
one_more bits ws us vs n l h =
    let word = bit_and (get_or ws n 0) (get_or vs n 0) in
    let within : n < length ws = omega (arith, h.count) in
    record {
      count = length-set ws n word ∙ h.count;
      done = λ k m. elim (k == n) as (λ b. (k == n) ≡ b → get_or (set ws n word) k 0 ≡ bit_and (get_or us k 0) (get_or vs k 0)) [
        | true ↦ λ e.
            let is : k ≡ n = grind (arith, nat_tests) in
            ap (λ j. get_or (set ws n word) j 0) is ∙ get_or-set_same ws n word 0 within
            ∙ ap (λ x. bit_and x (get_or vs n 0)) (h.left n (omega arith))
            ∙ ap (λ j. bit_and (get_or us j 0) (get_or vs j 0)) (sym is)
        | false ↦ λ e.
            let ne : k ≢ n = grind (arith, nat_tests) in
            get_or-set_other ws n k word 0 ne ∙ h.done k (omega arith)
      ] refl;
      left = λ k m. let ne : k ≢ n = omega arith in get_or-set_other ws n k word 0 ne ∙ h.left k (omega arith);
      seen = seen_more bits ws (set ws n word) n (λ k m. let ne : k ≢ n = omega arith in get_or-set_other ws n k word 0 ne) h.seen;
    }

module _ (bits : ℕ) (ws us vs : List ℕ) (n : ℕ) (all : 16 ≤ n) (h : SoFar bits ws us vs n) (hu : AreWords us) (hv : AreWords vs) where
  done : AreCommon ws us vs
  done k l = h.done k (omega (arith, l, all))

  pub narrowed_words : AreWords ws
  narrowed_words = common_words ws us vs h.count done hu hv

  module _ (s t : FiniteSet) (u : set_in us ≡ s) (v : set_in vs ≡ t) where
    is_both : set_in ws ≡ in_common s t
    is_both = set_in-common ws us vs done ∙ (λ i. in_common (u i) (v i))

    test : (bits == 0) ≡ is_empty_set (in_common s t)
    test = empty_unseen bits ws n all narrowed_words h.seen ∙ ap is_empty_set is_both

    pub narrowed_some : (bits ≡ 0 → ⊥) → set_in ws ≡ cond (is_empty_set (in_common s t)) t (in_common s t)
    narrowed_some some = is_both ∙ some_left t (in_common s t) bits test some

    pub narrowed_none : bits ≡ 0 → t ≡ cond (is_empty_set (in_common s t)) t (in_common s t)
    narrowed_none none = none_left t (in_common s t) bits test none
