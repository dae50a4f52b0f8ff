-- What reading and setting a bit does to the set in the words.
use Rattle.std.proofs.Common.{◌≡◌, ◌≢◌, ℕ, zero, suc, true≢false, ◌*◌, ◌/◌, ◌%◌, ◌^◌, ◌<◌, ◌≤◌, Bool, true, false, ◌==◌, ◌&&◌, ◌||◌, IsTrue, nat_eq, nat_lt, List, [], ◌∷◌, length, get_or, set, bit_and, bit_or, refl, sym, ap, subst, ◌∙◌, arith}
use Rattle.std.specs.Int.{bit_at}
use Rattle.std.specs.List.{AllByRecursion, list_all}
use Rattle.std.proofs.lemmas.Nat.{or_lt}
use Rattle.std.proofs.lemmas.Nat.Bits.{shr_and_one, bit_at-zero, bit_at_set_same, bit_at_set_other}
use Rattle.std.proofs.lemmas.List.{get_or-set_same, get_or-set_other, length-set, get_or_past}
use Rattle.std.proofs.lemmas.Bool.{and_parts}
use Rattle.std.proofs.lemmas.Bool.Decides.{nat_tests}
use Rattle.std.specs.Int.{w64}
use Rattle.cg_maps.specs.FiniteSet.{has, members, is_empty_set, no_members, with_member}
use Rattle.cg_maps.specs.FiniteMap.{empty, get, keys}
use Rattle.cg_maps.proofs.Sets.{same_set, has-no_members, has-with_member, empty_set-is}
use Rattle.cg_cpus.specs.Words.{has_bit, set_in, AreWords, word_of_bits, words_of}
use Rattle.cg_cpus.specs.WordsBack.{has-set_in, words_back}

pub all_zero : (xs : List ℕ) → AllByRecursion (λ x. x ≡ 0) xs → (k : ℕ) → get_or xs k 0 ≡ 0
all_zero [] h k = refl
all_zero (x ∷ xs) h zero = h.0
all_zero (x ∷ xs) h (suc k) = all_zero xs h.1 k

pub and_false : (b : Bool) → (b && false) ≡ false
and_false true = refl
and_false false = refl

-- words of zeros hold nothing
pub set_in-zeros : (words : List ℕ) → AllByRecursion (λ x. x ≡ 0) words → set_in words ≡ no_members
set_in-zeros words h = same_set _ _ (λ n.
    has-set_in words n
    ∙ ap (λ w. nat_lt n 1024 && (bit_at w (n % 64) == 1)) (all_zero words h (n / 64))
    ∙ ap (λ b. nat_lt n 1024 && (b == 1)) (bit_at-zero (n % 64))
    ∙ and_false (nat_lt n 1024)
    ∙ sym (has-no_members n))

-- every number in the words is below 1,024
pub below_limit : (words : List ℕ) (n : ℕ) → IsTrue (has (set_in words) n) → n < 1024
below_limit words n h = is_below (nat_lt n 1024) (has_bit words n) refl (subst IsTrue (has-set_in words n) h)
  where
    is_below : (a b : Bool) → nat_lt n 1024 ≡ a → IsTrue (a && b) → n < 1024
    is_below true b e h = grind (arith, nat_tests)
    is_below false b e h = absurd (true≢false (sym h))

-- the test of a bit
pub bit_test : (words : List ℕ) (cpu i : ℕ) → i ≡ cpu / 64 → cpu < 1024 → nat_eq (bit_and (get_or words i 0 / 2 ^ (cpu % 64)) 1) 1 ≡ has (set_in words) cpu
bit_test words cpu i e l =
    let here : nat_lt cpu 1024 ≡ true = grind (arith, nat_tests) in
    ap (λ b. b == 1) (shr_and_one (get_or words i 0) (cpu % 64))
    ∙ ap (λ j. bit_at (get_or words j 0) (cpu % 64) == 1) e
    ∙ sym (has-set_in words cpu ∙ ap (λ b. b && has_bit words cpu) here)

pub not_below : (words : List ℕ) (cpu : ℕ) → 1024 ≤ cpu → has (set_in words) cpu ≡ false
not_below words cpu l =
    let past : nat_lt cpu 1024 ≡ false = grind (arith, nat_tests) in
    has-set_in words cpu ∙ ap (λ b. b && has_bit words cpu) past

-- a word with the bit k set
abbrev pub with_bit : ℕ → ℕ → ℕ
with_bit w k = bit_or w (1 * 2 ^ k % 18446744073709551616)

-- words of which one is another
pub words_with : (words : List ℕ) (i w : ℕ) → AreWords words → w < 2 ^ 64 → AreWords (set words i w)
words_with words i w h small = record {
  count = length-set words i w ∙ h.count;
  width = λ j. elim (j == i) as (λ b. (j == i) ≡ b → get_or (set words i w) j 0 < 2 ^ 64) [
    | true ↦ λ e. let is : j ≡ i = grind (arith, nat_tests) in inside j is
    | false ↦ λ e. let ne : j ≢ i = grind (arith, nat_tests) in subst (λ x. x < 2 ^ 64) (sym (get_or-set_other words i j w 0 ne)) (h.width j)
  ] refl;
}
  where
    -- where i is past the end nothing was set
    inside : (j : ℕ) → j ≡ i → get_or (set words i w) j 0 < 2 ^ 64
    inside j is = subst (λ x. get_or (set words i w) x 0 < 2 ^ 64) (sym is) (elim (nat_lt i (length words)) as (λ b. nat_lt i (length words) ≡ b → get_or (set words i w) i 0 < 2 ^ 64) [
      | true ↦ λ e. let l : i < length words = grind (arith, nat_tests) in subst (λ x. x < 2 ^ 64) (sym (get_or-set_same words i w 0 l)) small
      | false ↦ λ e. let l : length words ≤ i = grind (arith, nat_tests) in subst (λ x. x < 2 ^ 64) (sym (get_or_past (set words i w) i 0 (omega (arith, l, length-set words i w)))) (omega arith)
    ] refl)

pub words_with_bit : (words : List ℕ) (i k : ℕ) → AreWords words → AreWords (set words i (with_bit (get_or words i 0) k))
words_with_bit words i k h = words_with words i (with_bit (get_or words i 0) k) h (or_lt 64 (get_or words i 0) (1 * 2 ^ k % 18446744073709551616) (h.width i) (omega arith))

module _ (words : List ℕ) (cpu i : ℕ) (h : AreWords words) (e : i ≡ cpu / 64) (l : cpu < 1024) where
  abbrev after : List ℕ
  after = set words i (with_bit (get_or words i 0) (cpu % 64))

  word_here : get_or after i 0 ≡ with_bit (get_or words i 0) (cpu % 64)
  word_here =
      let within : i < length words = omega (arith, h.count) in
      get_or-set_same words i (with_bit (get_or words i 0) (cpu % 64)) 0 within

  bit_here : has_bit after cpu ≡ true
  bit_here =
      ap (λ j. bit_at (get_or after j 0) (cpu % 64) == 1) (sym e)
      ∙ ap (λ w. bit_at w (cpu % 64) == 1) word_here
      ∙ ap (λ b. b == 1) (bit_at_set_same w64 (get_or words i 0) (cpu % 64) (omega arith))

  bit_there : (n : ℕ) → n ≢ cpu → has_bit after n ≡ has_bit words n
  bit_there n ne = elim (n / 64 == i) as (λ b. (n / 64 == i) ≡ b → has_bit after n ≡ has_bit words n) [
    | true ↦ λ t.
        let is : n / 64 ≡ i = grind (arith, nat_tests) in
        let other : n % 64 ≢ cpu % 64 = λ p. ne (omega (arith, p)) in
        ap (λ j. bit_at (get_or after j 0) (n % 64) == 1) is
        ∙ ap (λ w. bit_at w (n % 64) == 1) word_here
        ∙ ap (λ b. b == 1) (bit_at_set_other w64 (get_or words i 0) (cpu % 64) (omega arith) (n % 64) other)
        ∙ ap (λ j. bit_at (get_or words j 0) (n % 64) == 1) (sym is)
    | false ↦ λ t.
        let apart : n / 64 ≢ i = grind (arith, nat_tests) in
        ap (λ w. bit_at w (n % 64) == 1) (get_or-set_other words i (n / 64) (with_bit (get_or words i 0) (cpu % 64)) 0 apart)
  ] refl

  one_more : (n : ℕ) → (nat_lt n 1024 && has_bit after n) ≡ ((n == cpu) || (nat_lt n 1024 && has_bit words n))
  one_more n = elim (n == cpu) as (λ b. (n == cpu) ≡ b → (nat_lt n 1024 && has_bit after n) ≡ (b || (nat_lt n 1024 && has_bit words n))) [
    | true ↦ λ t.
        let is : n ≡ cpu = grind (arith, nat_tests) in
        let here : nat_lt n 1024 ≡ true = grind (arith, nat_tests) in
        (λ j. here j && has_bit after (is j)) ∙ bit_here
    | false ↦ λ t.
        let ne : n ≢ cpu = grind (arith, nat_tests) in
        ap (λ b. nat_lt n 1024 && b) (bit_there n ne)
  ] refl

  pub set_in-with_bit : set_in after ≡ with_member (set_in words) cpu
  set_in-with_bit = same_set _ _ (λ n.
      has-set_in after n ∙ one_more n ∙ sym (has-with_member (set_in words) cpu n ∙ ap (λ b. (n == cpu) || b) (has-set_in words n)))

-- ---- the empty set

no_word : list_all (λ w. w == 0) (words_of no_members) ≡ true
unfolding words_of word_of_bits empty get
no_word = refl

pub all_zeros : (xs : List ℕ) → list_all (λ w. w == 0) xs ≡ true → AllByRecursion (λ x. x ≡ 0) xs
all_zeros [] h = tt
all_zeros (x ∷ xs) h = (is_zero (and_parts (x == 0) _ h).0, all_zeros xs (and_parts (x == 0) _ h).1)
  where
    is_zero : {x : ℕ} → (x == 0) ≡ true → x ≡ 0
    is_zero e = grind (arith, nat_tests)

pub none : is_empty_set no_members ≡ true
unfolding members keys empty
none = refl

-- the set is empty where every word is 0
pub empty_test : (words : List ℕ) → AreWords words → list_all (λ w. w == 0) words ≡ is_empty_set (set_in words)
empty_test words h = elim (is_empty_set (set_in words)) as (λ b. is_empty_set (set_in words) ≡ b → list_all (λ w. w == 0) words ≡ b) [
  | true ↦ λ e.
      let is : words ≡ words_of no_members = sym (words_back words h) ∙ ap words_of (empty_set-is (set_in words) e) in
      ap (list_all (λ w. w == 0)) is ∙ no_word
  | false ↦ λ e. elim (list_all (λ w. w == 0) words) as (λ b. list_all (λ w. w == 0) words ≡ b → b ≡ false) [
    | true ↦ λ z. sym (ap is_empty_set (set_in-zeros words (all_zeros words z)) ∙ none) ∙ e
    | false ↦ λ z. refl
  ] refl
] refl
