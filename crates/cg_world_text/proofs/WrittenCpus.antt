-- The text of a set of CPU numbers up to 1,023 is one short plain word.
use Rattle.std.proofs.Common.{◌≡◌, ℕ, ◌+◌, ◌*◌, ◌<◌, ◌≤◌, Bool, true, false, not, ◌==◌, ◌||◌, cond, List, [], ◌∷◌, ◌++◌, map, length, refl, sym, ap, ◌∙◌, arith, Less, length-append, eq-eqb, true≢false}
use Rattle.std.specs.Fmt.{decimal}
use Rattle.std.specs.List.{AllByRecursion, list_any, join_with_byte}
use Rattle.std.specs.List.Sorted.{IsStrictlySortedBy}
use Rattle.std.specs.Ordering.{nat_cmp}
use Rattle.std.proofs.lemmas.Bool.Decides.{nat_tests}
use Rattle.std.proofs.lemmas.Fmt.{length-decimal-le}
use Rattle.std.proofs.lemmas.List.{length-map}
use Rattle.cg_maps.specs.FiniteMap.{is_nonempty}
use Rattle.cg_maps.specs.FiniteSet.{FiniteSet, members, is_empty_set}
use Rattle.cg_maps.proofs.Sets.{has-members, members_ascend}
use Rattle.cg_cpus.specs.CpuList.{onto_runs, runs, run_text, cpus_text}
use Rattle.cg_name.specs.Word.{is_plain_byte}
use Rattle.cg_text.specs.Words.{Word}
use Rattle.cg_world.specs.Representable.{AreCpusUpTo}
use Rattle.cg_world_text.specs.World.{asked_cpus_text}
use Rattle.cg_text.proofs.Lists.{all_append}
use Rattle.cg_world_text.proofs.PlainWords.{IsPlainWord, decimal_plain}
use Rattle.cg_world_text.proofs.WrittenWords.{joined_plain}

or_true : (b : Bool) → (b || true) ≡ true
or_true true = refl
or_true false = refl

-- what holds of each number that is found in a list holds of its items
all_found : (P : ℕ → Type 0) (xs : List ℕ) → ((n : ℕ) → list_any (λ m. n == m) xs ≡ true → P n) → AllByRecursion P xs
all_found P [] h = tt
all_found P (x ∷ xs) h = (
  h x (ap (λ b. b || list_any (λ m. x == m) xs) (eq-eqb x x refl)),
  all_found P xs (λ n e. h n (ap (λ b. (n == x) || b) e ∙ or_true (n == x))),
)

members_low : (s : FiniteSet) → AreCpusUpTo 1023 s → AllByRecursion (λ n. n ≤ 1023) (members s)
members_low s low = all_found (λ n. n ≤ 1023) (members s) (λ n e. low n (has-members s n ∙ e))

-- ---- how many there are

above : (n : ℕ) (ns : List ℕ) → AllByRecursion (λ y. nat_cmp n y ≡ Less) ns → AllByRecursion (λ y. n + 1 ≤ y) ns
above n [] h = tt
above n (y ∷ ns) h = (grind (arith, nat_tests), above n ns h.1)

few : (low : ℕ) (ns : List ℕ) → low ≤ 1024 → IsStrictlySortedBy nat_cmp ns → AllByRecursion (λ n. low ≤ n) ns → AllByRecursion (λ n. n ≤ 1023) ns → length ns + low ≤ 1024
unfolding IsStrictlySortedBy
few low [] l s a h = omega arith
few low (n ∷ ns) l s a h = let r : length ns + (n + 1) ≤ 1024 = few (n + 1) ns (omega (arith, h.0)) s.1 (above n ns s.0) h.1 in omega (arith, a.0)

all_from_zero : (ns : List ℕ) → AllByRecursion (λ n. 0 ≤ n) ns
all_from_zero [] = tt
all_from_zero (n ∷ ns) = (omega arith, all_from_zero ns)

-- ---- the runs

abbrev IsLow : ℕ × ℕ → Type 0
IsLow r = (r.0 ≤ 1023) × (r.1 ≤ 1023)

onto_low : (n : ℕ) (rs : List (ℕ × ℕ)) → n ≤ 1023 → AllByRecursion IsLow rs → AllByRecursion IsLow (onto_runs n rs)
onto_low n [] l h = ((l, l), tt)
onto_low n (r ∷ rs) l h = elim (r.0 == n + 1) as (λ b. AllByRecursion IsLow (cond b ((n, r.1) ∷ rs) ((n, n) ∷ r ∷ rs))) [
  | true ↦ ((l, h.0.1), h.1)
  | false ↦ ((l, l), h)
]

runs_low : (ns : List ℕ) → AllByRecursion (λ n. n ≤ 1023) ns → AllByRecursion IsLow (runs ns)
runs_low [] h = tt
runs_low (n ∷ ns) h = onto_low n (runs ns) h.0 (runs_low ns h.1)

onto_few : (n : ℕ) (rs : List (ℕ × ℕ)) → length (onto_runs n rs) ≤ length rs + 1
onto_few n [] = omega arith
onto_few n (r ∷ rs) = elim (r.0 == n + 1) as (λ b. length (cond b ((n, r.1) ∷ rs) ((n, n) ∷ r ∷ rs)) ≤ length (r ∷ rs) + 1) [
  | true ↦ omega arith
  | false ↦ omega arith
]

runs_few : (ns : List ℕ) → length (runs ns) ≤ length ns
runs_few [] = omega arith
runs_few (n ∷ ns) = let r = runs_few ns in let o = onto_few n (runs ns) in omega arith

onto_some : (n : ℕ) (rs : List (ℕ × ℕ)) → is_nonempty (onto_runs n rs) ≡ true
onto_some n [] = refl
onto_some n (r ∷ rs) = elim (r.0 == n + 1) as (λ b. is_nonempty (cond b ((n, r.1) ∷ rs) ((n, n) ∷ r ∷ rs)) ≡ true) [ true ↦ refl | false ↦ refl ]

runs_some : (ns : List ℕ) → is_nonempty ns ≡ true → is_nonempty (runs ns) ≡ true
runs_some [] h = h
runs_some (n ∷ ns) h = onto_some n (runs ns)

-- ---- their texts

record IsShortWord (w : Word) : Type 0 where
  word : IsPlainWord w
  short : length w ≤ 9

filled_append : (v w : List ℕ) → 0 < length v → 0 < length (v ++ w)
filled_append v w h = omega (arith, h, length-append v w)

run_short : (r : ℕ × ℕ) → IsLow r → IsShortWord (run_text r)
run_short r low =
    let a : IsPlainWord (decimal r.0) = decimal_plain r.0 (omega (arith, low.0)) in
    let b : IsPlainWord (decimal r.1) = decimal_plain r.1 (omega (arith, low.1)) in
    let la : length (decimal r.0) ≤ 4 = length-decimal-le 4 r.0 (omega arith) (omega (arith, low.0)) (omega (arith, low.0)) in
    let lb : length (decimal r.1) ≤ 4 = length-decimal-le 4 r.1 (omega arith) (omega (arith, low.1)) (omega (arith, low.1)) in
    elim (r.0 == r.1) as (λ e. IsShortWord (cond e (decimal r.0) (decimal r.0 ++ 45 ∷ decimal r.1))) [
      | true ↦ record { word = a; short = omega arith }
      | false ↦ record {
        word = record { some = filled_append (decimal r.0) (45 ∷ decimal r.1) a.some; plain = all_append is_plain_byte (decimal r.0) (45 ∷ decimal r.1) a.plain b.plain };
        short = omega (arith, length-append (decimal r.0) (45 ∷ decimal r.1));
      }
    ]

all_short : (rs : List (ℕ × ℕ)) → AllByRecursion IsLow rs → AllByRecursion IsShortWord (map run_text rs)
all_short [] h = tt
all_short (r ∷ rs) h = (run_short r h.0, all_short rs h.1)

plain_words : (ws : List Word) → AllByRecursion IsShortWord ws → AllByRecursion IsPlainWord ws
plain_words [] h = tt
plain_words (w ∷ ws) h = (h.0.word, plain_words ws h.1)

joined_short : (ws : List Word) → AllByRecursion IsShortWord ws → length (join_with_byte 44 ws) ≤ 10 * length ws
joined_short [] h = omega arith
joined_short (w ∷ []) h = omega (arith, h.0.short)
joined_short (w ∷ v ∷ ws) h = let r = joined_short (v ∷ ws) h.1 in omega (arith, h.0.short, length-append w (44 ∷ join_with_byte 44 (v ∷ ws)))

joined_some : (rs : List (ℕ × ℕ)) → AllByRecursion IsLow rs → is_nonempty rs ≡ true → 0 < length (join_with_byte 44 (map run_text rs))
joined_some [] h e = absurd (true≢false (sym e))
joined_some (r ∷ []) h e = (run_short r h.0).word.some
joined_some (r ∷ q ∷ rs) h e = filled_append (run_text r) (44 ∷ join_with_byte 44 (map run_text (q ∷ rs))) (run_short r h.0).word.some

pub cpus_short : (s : FiniteSet) → AreCpusUpTo 1023 s → length (cpus_text s) ≤ 10240
cpus_short s low =
    let rs : List (ℕ × ℕ) = runs (members s) in
    let each = all_short rs (runs_low (members s) (members_low s low)) in
    let count : length (members s) + 0 ≤ 1024 = few 0 (members s) (omega arith) (members_ascend s) (all_from_zero (members s)) (members_low s low) in
    omega (arith, joined_short (map run_text rs) each, length-map rs run_text, runs_few (members s))

pub cpus_plain : (s : FiniteSet) → AreCpusUpTo 1023 s → is_empty_set s ≡ false → IsPlainWord (cpus_text s)
cpus_plain s low some =
    let rs : List (ℕ × ℕ) = runs (members s) in
    let runs_are = runs_low (members s) (members_low s low) in
    record {
      some = joined_some rs runs_are (runs_some (members s) (not_false (is_nonempty (members s)) some));
      plain = joined_plain (map run_text rs) (plain_words (map run_text rs) (all_short rs runs_are));
    }
  where
    not_false : (b : Bool) → not b ≡ false → b ≡ true
    not_false true e = refl
    not_false false e = sym e

pub asked_plain : (s : FiniteSet) → AreCpusUpTo 1023 s → IsPlainWord (asked_cpus_text s)
asked_plain s low = elim (is_empty_set s) as (λ b. is_empty_set s ≡ b → IsPlainWord (cond b (45 ∷ []) (cpus_text s))) [
  | true ↦ λ e. record { some = omega arith; plain = refl }
  | false ↦ λ e. cpus_plain s low e
] refl

pub asked_short : (s : FiniteSet) → AreCpusUpTo 1023 s → length (asked_cpus_text s) ≤ 10240
asked_short s low = elim (is_empty_set s) as (λ b. length (cond b (45 ∷ []) (cpus_text s)) ≤ 10240) [
  | true ↦ omega arith
  | false ↦ cpus_short s low
]
