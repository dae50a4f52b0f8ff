-- Where a search for a byte found the first newline, and whether one is to come.
use Rattle.std.proofs.Common.{◌≡◌, ◌≢◌, ℕ, suc, ◌+◌, ◌-◌, ◌<◌, ◌≤◌, ◌==◌, Bool, true, false, List, [], ◌∷◌, ◌++◌, length, take, drop, refl, sym, ap, subst, ◌∙◌, arith, get_or, get_or-take, get_or-drop, length-take, length-drop, take-append-drop, drop-cons, drop-drop, add-one}
use Rattle.std.specs.Prelude.{Option, Some, None, MatchOption, slice_index}
use Rattle.std.specs.List.{slice_range}
use Rattle.std.proofs.lemmas.Bool.{eqb-true, eqb-false, eq-eqb}
use Rattle.std.proofs.lemmas.List.Elements.{All-from_get_or, All-nil, All-cons, All-get_or, All-drop}
use Rattle.memchr.specs.Find.{IsFirstByte, Nowhere, Passes, is_byte}
use Rattle.cg_lines.specs.Lines.{HasNoNewline, IsFirstNewline, EndsWholeLines}
use Rattle.cg_lines.proofs.LinesLemmas.{part_of}

-- no byte below place n is a newline
before : (bytes : List ℕ) (n : ℕ) → n ≤ length bytes → Nowhere (Passes (is_byte 10) bytes) 0 n → HasNoNewline (take n bytes)
before bytes n low none =
    All-from_get_or (λ b. b ≢ 10) (take n bytes) 0
    (λ i h e. none i (omega arith) (omega (arith, h, length-take n bytes)) (eq-eqb (slice_index bytes i) 10 (sym (get_or-take n bytes i 0 (omega (arith, h, length-take n bytes))) ∙ e)))

pub first_newline : (bytes : List ℕ) (r : Option ℕ) → IsFirstByte (is_byte 10) bytes r → MatchOption r (HasNoNewline bytes) (IsFirstNewline bytes)
first_newline bytes None none =
    All-from_get_or (λ b. b ≢ 10) bytes 0 (λ i h e. none i (omega arith) h (eq-eqb (slice_index bytes i) 10 e))
first_newline bytes (Some n) found =
    let there : get_or bytes n 0 ≡ 10 = eqb-true (slice_index bytes n) 10 found.1 in
    let cut : drop n bytes ≡ 10 ∷ drop (suc n) bytes = drop-cons bytes n 0 found.0.high ∙ ap (λ b. b ∷ drop (suc n) bytes) there in
    let parts : bytes ≡ take n bytes ++ 10 ∷ drop (n + 1) bytes = rw add-one (sym (take-append-drop n bytes) ∙ ap (λ l. take n bytes ++ l) cut) in
    (found.0.high, before bytes n (omega (arith, found.0.high)) found.0.before, parts)

-- ---- a newline to come

-- bytes have a first newline, or none
first_of : (bytes : List ℕ) → (r : Option ℕ) × MatchOption r (HasNoNewline bytes) (IsFirstNewline bytes)
first_of [] = (None, All-nil (λ b. b ≢ 10))
first_of (b ∷ bytes) = by_test (b == 10) refl (first_of bytes)
  where
    by_test : (k : Bool) → (b == 10) ≡ k → (r : Option ℕ) × MatchOption r (HasNoNewline bytes) (IsFirstNewline bytes) → (r : Option ℕ) × MatchOption r (HasNoNewline (b ∷ bytes)) (IsFirstNewline (b ∷ bytes))
    by_test true e h = (Some 0, (omega arith, All-nil (λ b. b ≢ 10), ap (λ c. c ∷ bytes) (eqb-true b 10 e)))
    by_test false e (None, none) = (None, All-cons (λ b. b ≢ 10) b bytes (eqb-false b 10 e) none)
    by_test false e (Some n, found) = (
      Some (suc n),
      (
        omega (arith, found.0),
        All-cons (λ b. b ≢ 10) b (take n bytes) (eqb-false b 10 e) found.1,
        subst (λ k. b ∷ bytes ≡ take (suc n) (b ∷ bytes) ++ 10 ∷ drop k (b ∷ bytes)) (sym (add-one (suc n)))
            (ap (λ l. b ∷ l) (subst (λ k. bytes ≡ take n bytes ++ 10 ∷ drop k bytes) (add-one n) found.2)),
      ),
    )

-- a newline somewhere has one that is the first
some_first : (bytes : List ℕ) (m : ℕ) → m < length bytes → get_or bytes m 0 ≡ 10 → (n : ℕ) × IsFirstNewline bytes n
some_first bytes m low is = found (first_of bytes)
  where
    found : (r : Option ℕ) × MatchOption r (HasNoNewline bytes) (IsFirstNewline bytes) → (n : ℕ) × IsFirstNewline bytes n
    found (None, none) = absurd (All-get_or (λ b. b ≢ 10) bytes m 0 low none is)
    found (Some n, first) = (n, first)

-- before the place behind the last newline a newline is to come
line_to_come : (bytes : List ℕ) (whole start : ℕ) → EndsWholeLines bytes whole → start < whole → (n : ℕ) × IsFirstNewline (drop start bytes) n
line_to_come bytes whole start h low =
    some_first (drop start bytes) (whole - 1 - start)
    (omega (arith, h.within, low, length-drop start bytes))
    (get_or-drop start bytes (whole - 1 - start) 0 ∙ ap (λ i. get_or bytes i 0) (let e : start + (whole - 1 - start) ≡ whole - 1 = omega (arith, low) in e) ∙ h.newline (whole - 1) (omega (arith, low)))

no_line_to_come : (bytes : List ℕ) (whole start : ℕ) → EndsWholeLines bytes whole → whole ≤ start → HasNoNewline (drop start bytes)
no_line_to_come bytes whole start h low =
    subst HasNoNewline
    (drop-drop (start - whole) whole bytes ∙ ap (λ i. drop i bytes) (let e : whole + (start - whole) ≡ start = omega (arith, low) in e))
    (All-drop (λ b. b ≢ 10) (start - whole) (drop whole bytes) h.last)

-- the same of a part of the bytes
pub line_in_range : (bytes : List ℕ) (whole start end : ℕ) → EndsWholeLines (slice_range bytes 0 end) whole → start ≤ end → start < whole → (n : ℕ) × IsFirstNewline (slice_range bytes start end) n
line_in_range bytes whole start end h within low =
    subst (λ l. (n : ℕ) × IsFirstNewline l n) (part_of bytes start end within) (line_to_come (slice_range bytes 0 end) whole start h low)

pub no_line_in_range : (bytes : List ℕ) (whole start end : ℕ) → EndsWholeLines (slice_range bytes 0 end) whole → start ≤ end → whole ≤ start → HasNoNewline (slice_range bytes start end)
no_line_in_range bytes whole start end h within low =
    subst HasNoNewline (part_of bytes start end within) (no_line_to_come (slice_range bytes 0 end) whole start h low)
