-- A short line of plain words, cut where they end.
use Rattle.std.proofs.Common.{◌≡◌, ℕ, zero, suc, ◌+◌, ◌-◌, ◌*◌, ◌/◌, ◌%◌, ◌^◌, ◌<◌, ◌≤◌, ◌==◌, inl, Bool, true, false, ◌&&◌, not, cond, List, [], ◌∷◌, ◌++◌, length, take, drop, bit_and, refl, ap, sym, subst, ◌∙◌, append_assoc, add-one, arith, length-append, length-drop}
use Rattle.std.proofs.Math.Nat.{mul-pos, mul_assoc, mul_comm, pow-succ'}
use Rattle.std.proofs.lemmas.Bool.{and_parts}
use Rattle.std.proofs.lemmas.Bool.Decides.{nat_tests}
use Rattle.std.proofs.lemmas.List.{drop-drop, drop_at, take_at, take-append-drop}
use Rattle.std.proofs.lemmas.List.Folds.{list_all-append}
use Rattle.std.proofs.lemmas.Nat.{and_block, and_mask, mod_low, pow-add, pow_pos}
use Rattle.std.specs.Int.Bits.{and_self}
use Rattle.std.proofs.lemmas.Str.{IsUtf8-from_ascii}
use Rattle.std.specs.Int.{w64, trailing_zeros}
use Rattle.std.specs.Int.Count.{count_trailing_zeros, under}
use Rattle.std.specs.List.{list_all}
use Rattle.std.specs.Prelude.{slice_range}
use Rattle.std.specs.Str.{IsAscii, IsUtf8}
use Rattle.cg_name.specs.Word.{is_bare_byte, is_blank, IsWord}
use Rattle.cg_text.specs.Cutting.{starts_sign, starts_word}
use Rattle.cg_text.specs.WordEnds.{is_usual, word_ends}
use Rattle.cg_text.specs.Words.{Line, Word, Cuts, EndsWord, is_silent}
use Rattle.cg_text.proofs.Masks.{word_ends-pos}

-- ---- the first word of a text

abbrev is_no_blank : ℕ → Bool
is_no_blank b = not (is_blank b)

-- the ends behind the first one
abbrev pub ends_behind : List ℕ → ℕ
ends_behind [] = 0
ends_behind (b ∷ bs) = word_ends bs

-- the bytes ahead of the first end, which may be none
record FirstEnd (text : List ℕ) : Type 0 where
  word : Word
  others : Line
  parts : text ≡ word ++ others
  filled : list_all is_no_blank word ≡ true
  ends : EndsWord others
  value : word_ends text ≡ (2 * ends_behind others + 1) * 2 ^ length word

doubled : (a n : ℕ) → 2 * (a * 2 ^ n) ≡ a * 2 ^ suc n
doubled a n = let turned : a * (2 * 2 ^ n) ≡ 2 * (a * 2 ^ n) = omega arith in sym turned ∙ ap (λ p. a * p) (sym (pow-succ' 2 n))

first_end : (text : List ℕ) → FirstEnd text
first_end [] = record { word = []; others = []; parts = refl; filled = refl; ends = tt; value = refl }
first_end (b ∷ text) = by_test (is_blank b) refl (first_end text)
  where
    by_test : (k : Bool) → is_blank b ≡ k → FirstEnd text → FirstEnd (b ∷ text)
    by_test true e rest = record {
      word = [];
      others = b ∷ text;
      parts = refl;
      filled = refl;
      ends = e;
      value = ap (λ k. cond k 1 0 + 2 * word_ends text) e ∙ omega arith;
    }
    by_test false e rest = record {
      word = b ∷ rest.word;
      others = rest.others;
      parts = ap (λ bs. b ∷ bs) rest.parts;
      filled = ap (λ k. not k && list_all is_no_blank rest.word) e ∙ rest.filled;
      ends = rest.ends;
      value =
          ap (λ k. cond k 1 0 + 2 * word_ends text) e ∙ ap (λ n. 0 + 2 * n) rest.value
          ∙ (let same : 0 + 2 * ((2 * ends_behind rest.others + 1) * 2 ^ length rest.word) ≡ 2 * ((2 * ends_behind rest.others + 1) * 2 ^ length rest.word) = omega arith in same)
          ∙ doubled (2 * ends_behind rest.others + 1) (length rest.word);
    }

-- ---- the lowest bit of a number

trailing_of_shifted : (w k q : ℕ) → k < w → count_trailing_zeros w ((2 * q + 1) * 2 ^ k) ≡ k
unfolding count_trailing_zeros
trailing_of_shifted zero k q h = absurd (omega (arith, h))
trailing_of_shifted (suc w) zero q h =
    let odd : (2 * q + 1) * 2 ^ 0 % 2 ≡ 1 = omega arith in
    ap (λ d. under d (count_trailing_zeros w ((2 * q + 1) * 2 ^ 0 / 2))) odd
trailing_of_shifted (suc w) (suc k) q h =
    let n = (2 * q + 1) * 2 ^ k in
    let twice : (2 * q + 1) * 2 ^ suc k ≡ 2 * n = sym (doubled (2 * q + 1) k) in
    let even : 2 * n % 2 ≡ 0 = omega arith in
    let half : 2 * n / 2 ≡ n = omega arith in
    ap (λ m. under (m % 2) (count_trailing_zeros w (m / 2))) twice ∙ (λ i. under (even i) (count_trailing_zeros w (half i))) ∙ ap suc (trailing_of_shifted w k q (omega (arith, h)))

without_lowest : (k q : ℕ) → bit_and ((2 * q + 1) * 2 ^ k) ((2 * q + 1) * 2 ^ k - 1) ≡ q * 2 ^ (k + 1)
without_lowest k q =
    let some : 0 < 2 ^ k = pow_pos k in
    let power : 2 ^ (k + 1) ≡ 2 * 2 ^ k = ap (λ n. 2 ^ n) (add-one k) ∙ pow-succ' 2 k in
    let shifted : q * 2 ^ (k + 1) ≡ q * (2 * 2 ^ k) = ap (λ n. q * n) power in
    let high : (2 * q + 1) * 2 ^ k ≡ q * 2 ^ (k + 1) + 2 ^ k = omega (arith, shifted) in
    let low : (2 * q + 1) * 2 ^ k - 1 ≡ q * 2 ^ (k + 1) + (2 ^ k - 1) = omega (arith, shifted, some) in
    let nothing : bit_and (2 ^ k) (2 ^ k - 1) ≡ 0 = and_mask (2 ^ k) k ∙ ap (λ n. n % 2 ^ k) (let e : 2 ^ k ≡ 1 * 2 ^ k + 0 = omega arith in e) ∙ mod_low 1 k 0 some in
    (λ i. bit_and (high i) (low i)) ∙ and_block (k + 1) q q (2 ^ k) (2 ^ k - 1) (omega (arith, power, some)) (omega (arith, power, some))
    ∙ (λ i. and_self q i * 2 ^ (k + 1) + nothing i) ∙ omega arith

-- ---- one end after another

-- the bits of the ends behind a place, and the first word there, of which no byte may be ahead of the end
pub record IsAt (line : Line) (start ends : ℕ) : Type 0 where
  pub within : start ≤ length line
  pub value : ends ≡ word_ends (drop start line) * 2 ^ start

record NextEnd (line : Line) (start ends : ℕ) : Type 0 where
  word : Word
  others : Line
  parts : drop start line ≡ word ++ others
  filled : list_all is_no_blank word ≡ true
  closes : EndsWord others
  some : 0 < ends
  place : trailing_zeros w64 ends ≡ start + length word
  left : bit_and ends (ends - 1) ≡ ends_behind others * 2 ^ (start + length word + 1)

next_end : (line : Line) (start ends : ℕ) → length line ≤ 63 → IsAt line start ends → NextEnd line start ends
next_end line start ends short at =
    let f : FirstEnd (drop start line) = first_end (drop start line) in
    let long : length f.word + length f.others + start ≡ length line = omega (arith, ap length f.parts, length-append f.word f.others, length-drop start line, at.within) in
    let q = ends_behind f.others in
    let value : ends ≡ (2 * q + 1) * 2 ^ (start + length f.word) =
    at.value ∙ ap (λ n. n * 2 ^ start) f.value ∙ turned (2 * q + 1) start (length f.word) in
    record {
      word = f.word;
      others = f.others;
      parts = f.parts;
      filled = f.filled;
      closes = f.ends;
      some = omega (arith, value, mul-pos {m = 2 * q + 1} {n = 2 ^ (start + length f.word)} (omega arith) (pow_pos (start + length f.word)));
      place = ap (count_trailing_zeros 64) value ∙ trailing_of_shifted 64 (start + length f.word) q (omega (arith, long, short));
      left = (λ i. bit_and (value i) (value i - 1)) ∙ without_lowest (start + length f.word) q;
    }
  where
    turned : (a m n : ℕ) → a * 2 ^ n * 2 ^ m ≡ a * 2 ^ (m + n)
    turned a m n = mul_assoc a (2 ^ n) (2 ^ m) ∙ ap (λ p. a * p) (mul_comm (2 ^ n) (2 ^ m) ∙ sym (pow-add 2 m n))

-- ---- the bytes of a plain word

bare : (b : ℕ) → is_no_blank b ≡ true → is_usual b ≡ true → is_bare_byte b ≡ true
bare b e h = grind (arith, nat_tests)

all_bare : (xs : List ℕ) → list_all is_no_blank xs ≡ true → list_all is_usual xs ≡ true → list_all is_bare_byte xs ≡ true
all_bare [] e h = refl
all_bare (x ∷ xs) e h =
    let no_blanks : (is_no_blank x ≡ true) × (list_all is_no_blank xs ≡ true) = and_parts (is_no_blank x) (list_all is_no_blank xs) e in
    let usual : (is_usual x ≡ true) × (list_all is_usual xs ≡ true) = and_parts (is_usual x) (list_all is_usual xs) h in
    (λ i. bare x no_blanks.0 usual.0 i && all_bare xs no_blanks.1 usual.1 i)

usual_is_ascii : (b : ℕ) → is_usual b ≡ true → b < 128
usual_is_ascii b e = grind (arith, nat_tests)

all_ascii : (xs : List ℕ) → list_all is_usual xs ≡ true → IsAscii xs
all_ascii [] e i = omega arith
all_ascii (x ∷ xs) e zero = usual_is_ascii x (and_parts (is_usual x) (list_all is_usual xs) e).0
all_ascii (x ∷ xs) e (suc i) = all_ascii xs (and_parts (is_usual x) (list_all is_usual xs) e).1 i

pub usual_is_text : (xs : List ℕ) → list_all is_usual xs ≡ true → IsUtf8 xs
usual_is_text xs e = IsUtf8-from_ascii xs (all_ascii xs e)

usual_parts : (xs ys : List ℕ) → list_all is_usual (xs ++ ys) ≡ true → (list_all is_usual xs ≡ true) × (list_all is_usual ys ≡ true)
usual_parts xs ys e = and_parts (list_all is_usual xs) (list_all is_usual ys) (sym (list_all-append is_usual xs ys) ∙ e)

usual_behind : (n : ℕ) (xs : List ℕ) → list_all is_usual xs ≡ true → list_all is_usual (drop n xs) ≡ true
usual_behind n xs e = (usual_parts (take n xs) (drop n xs) (ap (list_all is_usual) (take-append-drop n xs) ∙ e)).1

-- ---- word by word

-- a line is cut into the words that are done and those behind a place
pub record IsCutAt (line : Line) (done : List Word) (start ends : ℕ) : Type 0 where
  pub place : IsAt line start ends
  pub cut : (ws : List Word) → Cuts (drop start line) ws → Cuts line (done ++ ws)
  pub begins : 0 < start → starts_word line ≡ true

pub cut_from_start : (line : Line) (ends : ℕ) → ends ≡ word_ends line → IsCutAt line [] 0 ends
cut_from_start line ends e = record {
  place = record { within = omega arith; value = e ∙ omega arith };
  cut = λ ws c. c;
  begins = λ some. absurd (omega (arith, some));
}

-- where the next word ends, and what is left of the ends behind it
pub record EndsNext (line : Line) (start ends : ℕ) : Type 0 where
  pub some : 0 < ends
  pub from : start ≤ trailing_zeros w64 ends
  pub within : trailing_zeros w64 ends ≤ length line
  pub text : IsUtf8 (slice_range line start (trailing_zeros w64 ends))

next_word : (line : Line) (start ends : ℕ) (n : NextEnd line start ends) → slice_range line start (trailing_zeros w64 ends) ≡ n.word
next_word line start ends n =
    (λ i. take (n.place i - start) (n.parts i)) ∙ take_at n.word n.others (start + length n.word - start) (omega arith)

pub ends_next : (line : Line) (start ends : ℕ) → length line ≤ 63 → list_all is_usual line ≡ true → IsAt line start ends → EndsNext line start ends
ends_next line start ends short usual at =
    let n : NextEnd line start ends = next_end line start ends short at in
    let long : length n.word + length n.others + start ≡ length line = omega (arith, ap length n.parts, length-append n.word n.others, length-drop start line, at.within) in
    let word : list_all is_usual n.word ≡ true = (usual_parts n.word n.others (ap (list_all is_usual) (sym n.parts) ∙ usual_behind start line usual)).0 in
    record {
      some = n.some;
      from = omega (arith, n.place);
      within = omega (arith, n.place, long);
      text = subst IsUtf8 (sym (next_word line start ends n)) (usual_is_text n.word word);
    }

starts_filled : (xs ys : List ℕ) → 0 < length xs → list_all is_no_blank xs ≡ true → starts_word (xs ++ ys) ≡ true
starts_filled [] ys some e = absurd (omega (arith, some))
starts_filled (x ∷ xs) ys some e = (and_parts (is_no_blank x) (list_all is_no_blank xs) e).0

-- the word that is put, where one is at the place
record Put (line : Line) (start ends : ℕ) (n : NextEnd line start ends) : Type 0 where
  is_word : IsWord n.word
  begins : starts_word line ≡ true

put : (line : Line) (done : List Word) (start ends : ℕ) → list_all is_usual line ≡ true → IsCutAt line done start ends → (start ≡ trailing_zeros w64 ends → ⊥) → (n : NextEnd line start ends) → Put line start ends n
put line done start ends usual h filled n =
    let word : list_all is_usual n.word ≡ true = (usual_parts n.word n.others (ap (list_all is_usual) (sym n.parts) ∙ usual_behind start line usual)).0 in
    let some : 0 < length n.word = by_length (length n.word) refl in
    record {
      is_word = (n.word, inl (record { nonempty = some; bytes = all_bare n.word n.filled word }, refl));
      begins = by_place start refl some;
    }
  where
    by_length : (k : ℕ) → length n.word ≡ k → 0 < length n.word
    by_length zero e = absurd (filled (omega (arith, n.place, e)))
    by_length (suc k) e = omega (arith, e)

    by_place : (k : ℕ) → start ≡ k → 0 < length n.word → starts_word line ≡ true
    by_place zero e some = ap (λ i. starts_word (drop i line)) (sym e) ∙ ap starts_word n.parts ∙ starts_filled n.word n.others some n.filled
    by_place (suc k) e some = h.begins (omega (arith, e))

shifted_some : (xs : List ℕ) (k : ℕ) → word_ends xs * 2 ^ k ≡ 0 → ⊥
shifted_some xs k e = omega (arith, e, mul-pos {m = word_ends xs} {n = 2 ^ k} (word_ends-pos xs) (pow_pos k))

-- nothing is left of the ends: the word is the last one
pub cut_to_end : (line : Line) (done : List Word) (start ends : ℕ) → length line ≤ 63 → list_all is_usual line ≡ true → IsCutAt line done start ends → (start ≡ trailing_zeros w64 ends → ⊥) → bit_and ends (ends - 1) ≡ 0 → (starts_word line ≡ true) × Cuts line (done ++ slice_range line start (trailing_zeros w64 ends) ∷ [])
cut_to_end line done start ends short usual h filled none =
    let n : NextEnd line start ends = next_end line start ends short h.place in
    let p : Put line start ends n = put line done start ends usual h filled n in
    let last : n.others ≡ [] = nothing n.others (start + length n.word + 1) (sym n.left ∙ none) in
    (p.begins, rw (next_word line start ends n) (h.cut (n.word ∷ []) ([], [], n.parts ∙ ap (λ r. n.word ++ r) last, refl, p.is_word, tt, refl)))
  where
    nothing : (others : Line) (k : ℕ) → ends_behind others * 2 ^ k ≡ 0 → others ≡ []
    nothing [] k e = refl
    nothing (b ∷ bs) k e = absurd (shifted_some bs k e)

cuts_behind_blank : (b : ℕ) (others : Line) → is_blank b ≡ true → (ws : List Word) → Cuts others ws → Cuts (b ∷ others) ws
cuts_behind_blank b others e [] c = ap (λ k. k && list_all is_blank others) e ∙ c
cuts_behind_blank b others e (w ∷ ws) c = (b ∷ c.0, c.1, ap (λ z. b ∷ z) c.2, ap (λ k. k && list_all is_blank c.0) e ∙ c.3, c.4, c.5, c.6)

-- something is left: others may stand behind the blank
pub cut_more : (line : Line) (done : List Word) (start ends : ℕ) → length line ≤ 63 → list_all is_usual line ≡ true → IsCutAt line done start ends → (start ≡ trailing_zeros w64 ends → ⊥) → (bit_and ends (ends - 1) ≡ 0 → ⊥) → IsCutAt line (done ++ slice_range line start (trailing_zeros w64 ends) ∷ []) (trailing_zeros w64 ends + 1) (bit_and ends (ends - 1))
cut_more line done start ends short usual h filled more =
    let n : NextEnd line start ends = next_end line start ends short h.place in
    by_others n (put line done start ends usual h filled n) n.others refl
  where
    by_others : (n : NextEnd line start ends) → Put line start ends n → (others : Line) → n.others ≡ others → IsCutAt line (done ++ slice_range line start (trailing_zeros w64 ends) ∷ []) (trailing_zeros w64 ends + 1) (bit_and ends (ends - 1))
    by_others n p [] e = absurd (more (n.left ∙ ap (λ o. ends_behind o * 2 ^ (start + length n.word + 1)) e ∙ omega arith))
    by_others n p (b ∷ bs) e =
        let at = start + length n.word + 1 in
        let parts : drop start line ≡ n.word ++ b ∷ bs = n.parts ∙ ap (λ o. n.word ++ o) e in
        let long : length n.word + (1 + length bs) + start ≡ length line = omega (arith, ap length parts, length-append n.word (b ∷ bs), length-drop start line, h.place.within) in
        let next : trailing_zeros w64 ends + 1 ≡ at = omega (arith, n.place) in
        let behind : drop at line ≡ bs =
        sym (drop-drop 1 (start + length n.word) line)
        ∙ ap (drop 1) (sym (drop-drop (length n.word) start line) ∙ ap (drop (length n.word)) parts ∙ drop_at n.word (b ∷ bs) (length n.word) refl) in
        let blank : is_blank b ≡ true = subst EndsWord e n.closes in
        record {
          place = record {
            within = omega (arith, next, long);
            value = n.left ∙ ap (λ o. ends_behind o * 2 ^ at) e ∙ ap (λ r. word_ends r * 2 ^ at) (sym behind) ∙ ap (λ k. word_ends (drop k line) * 2 ^ k) (sym next);
          };
          cut = λ ws c.
              let rest : Cuts bs ws = subst (λ r. Cuts r ws) (ap (λ k. drop k line) next ∙ behind) c in
              let whole : Cuts line (done ++ n.word ∷ ws) = h.cut (n.word ∷ ws) ([], b ∷ bs, parts, refl, p.is_word, blank, cuts_behind_blank b bs blank ws rest) in
              rw (next_word line start ends n) (subst (Cuts line) (sym (append_assoc done (n.word ∷ []) ws)) whole);
          begins = λ _. p.begins;
        }

-- a line that begins with a word, and with no number sign, says something
pub says_something : (line : Line) → starts_word line ≡ true → starts_sign line ≡ false → is_silent line ≡ false
says_something [] word sign = sym word
says_something (b ∷ line) word sign = by_test (is_blank b) word
  where
    by_test : (k : Bool) → not k ≡ true → cond k (is_silent line) (b == 35) ≡ false
    by_test true e = absurd (let no : false ≡ true = e in cc)
    by_test false e = sign
