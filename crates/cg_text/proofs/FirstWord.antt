-- A text begins with one word at most, which its first byte tells apart: quoted or bare.
use Rattle.std.proofs.Common.{◌↔◌, Bor, IsTrue, MatchOption, ◌≡◌, ◌⊎◌, inl, inr, ℕ, ◌+◌, ◌<◌, ◌||◌, ◌&&◌, Bool, true, false, not, List, [], ◌∷◌, ◌++◌, length, take, drop, refl, ap, sym, subst, ◌∙◌, append_assoc, true≢false, arith, length-append}
use Rattle.std.specs.Bool.{then_some}
use Rattle.std.proofs.Math.Seq.{take_at, drop_at}
use Rattle.std.proofs.lemmas.Bool.{and_parts}
use Rattle.std.proofs.lemmas.List.{append_cancel_right}
use Rattle.std.specs.List.{list_all}
use Rattle.cg_name.specs.Word.{is_blank, is_special, is_bare_byte, IsBare, StandFor, IsWord}
use Rattle.cg_text.specs.Cutting.{behind, Closes, BeginsWith}
use Rattle.cg_text.specs.Words.{Line, Word, EndsWord}
use Rattle.cg_text.proofs.Lists.{behind_none, behind_row, front_row}
use Rattle.cg_text.proofs.Closing.{one_close}

-- the text begins with a bare word, or with a quoted one
pub record BareFirst (text rest : Line) : Type 0 where
  pub byte : ℕ
  pub others : List ℕ
  pub parts : text ≡ byte ∷ others
  pub bare : is_bare_byte byte ≡ true
  pub behind_it : behind is_bare_byte others ≡ rest

pub record QuotedFirst (text rest : Line) : Type 0 where
  pub others : List ℕ
  pub parts : text ≡ 34 ∷ others
  pub closes : Closes others rest

-- a blank is no bare byte, and neither is a mark
blank_is_no_bare : (b : ℕ) → is_blank b ≡ true → is_bare_byte b ≡ false
blank_is_no_bare b e = ap (λ k. not (k || is_special b)) e

bare_is_no_blank : (b : ℕ) → is_bare_byte b ≡ true → is_blank b ≡ false
bare_is_no_blank b e = by_test (is_blank b) refl
  where
    by_test : (k : Bool) → is_blank b ≡ k → is_blank b ≡ false
    by_test true d = absurd (true≢false (sym e ∙ blank_is_no_bare b d))
    by_test false d = d

-- bare bytes end where a word ends
pub behind_ends : (rest : Line) → EndsWord rest → behind is_bare_byte rest ≡ rest
behind_ends [] h = refl
behind_ends (b ∷ rest) h = behind_none is_bare_byte b rest (blank_is_no_bare b h)

bare_first : (text w rest : List ℕ) → text ≡ w ++ rest → IsBare w → EndsWord rest → BareFirst text rest
bare_first text [] rest e bare ends = absurd (let n : 0 < length {A = ℕ} [] = bare.nonempty in omega (arith, n))
bare_first text (b ∷ w) rest e bare ends =
    let h : (is_bare_byte b ≡ true) × (list_all is_bare_byte w ≡ true) = and_parts (is_bare_byte b) (list_all is_bare_byte w) bare.bytes in
    record { byte = b; others = w ++ rest; parts = e; bare = h.0; behind_it = behind_row is_bare_byte w rest h.1 ∙ behind_ends rest ends }

quoted_first : (text w rest body bytes : List ℕ) → text ≡ w ++ rest → w ≡ 34 ∷ body ++ 34 ∷ [] → StandFor body bytes → QuotedFirst text rest
quoted_first text w rest body bytes e q stand =
    record {
      others = (body ++ 34 ∷ []) ++ rest;
      parts = e ∙ ap (λ z. z ++ rest) q;
      closes = record { body = body; bytes = bytes; parts = append_assoc body (34 ∷ []) rest; stand = stand };
    }

-- which of the two it is
pub first_of_both : (text : Line) (w : Word) (rest : Line) → BeginsWith text w rest → BareFirst text rest ⊎ QuotedFirst text rest
first_of_both text w rest h = elim h.is_word.1 [
  | inl b ↦ inl (bare_first text w rest h.parts b.0 h.ends)
  | inr q ↦ inr (quoted_first text w rest q.0 h.is_word.0 h.parts q.1 q.2)
]

-- each gives a word, where the rest ends it
bare_begins : (text rest : Line) → BareFirst text rest → EndsWord rest → (w : Word) × BeginsWith text w rest
bare_begins text rest h ends =
    let front : (front : List ℕ) × (h.others ≡ front ++ behind is_bare_byte h.others) × (list_all is_bare_byte front ≡ true) = front_row is_bare_byte h.others in (
      h.byte ∷ front.0,
      record {
        parts = h.parts ∙ ap (λ z. h.byte ∷ z) front.1 ∙ ap (λ z. h.byte ∷ front.0 ++ z) h.behind_it;
        is_word = (h.byte ∷ front.0, inl (record { nonempty = omega arith; bytes = ap (λ b. b && list_all is_bare_byte front.0) h.bare ∙ front.2 }, refl));
        ends = ends;
      },
    )

quoted_begins : (text rest : Line) → QuotedFirst text rest → EndsWord rest → (w : Word) × BeginsWith text w rest
quoted_begins text rest h ends = (
  34 ∷ h.closes.body ++ 34 ∷ [],
  record {
    parts = h.parts ∙ ap (λ z. 34 ∷ z) (h.closes.parts ∙ sym (append_assoc h.closes.body (34 ∷ []) rest));
    is_word = (h.closes.bytes, inr (h.closes.body, refl, h.closes.stand));
    ends = ends;
  },
)

-- a word is the bytes before the rest
pub begins_at : (text : Line) (w : Word) (rest : Line) (n : ℕ) → BeginsWith text w rest → n + length rest ≡ length text → BeginsWith text (take n text) (drop n text)
begins_at text w rest n h e =
    let long : length w ≡ n = omega (arith, ap length h.parts, length-append w rest) in
    let front : take n text ≡ w = ap (take n) h.parts ∙ take_at w rest n long in
    let back : drop n text ≡ rest = ap (drop n) h.parts ∙ drop_at w rest n long in
    subst (λ v. BeginsWith text v (drop n text)) (sym front) (subst (λ r. BeginsWith text w r) (sym back) h)

-- ---- in one way

bare_byte_is_no_mark : (b : ℕ) → is_bare_byte b ≡ true → b ≡ 34 → ⊥
bare_byte_is_no_mark b h e = true≢false (sym h ∙ ap is_bare_byte e)

same_rest : (text r s : Line) → BareFirst text r ⊎ QuotedFirst text r → BareFirst text s ⊎ QuotedFirst text s → r ≡ s
same_rest text r s (inl h) (inl k) =
    let e : h.byte ∷ h.others ≡ k.byte ∷ k.others = sym h.parts ∙ k.parts in
    let t : h.others ≡ k.others = cc in
    sym h.behind_it ∙ ap (behind is_bare_byte) t ∙ k.behind_it
same_rest text r s (inl h) (inr k) =
    let e : h.byte ∷ h.others ≡ 34 ∷ k.others = sym h.parts ∙ k.parts in
    let b : h.byte ≡ 34 = cc in
    absurd (bare_byte_is_no_mark h.byte h.bare b)
same_rest text r s (inr h) (inl k) =
    let e : k.byte ∷ k.others ≡ 34 ∷ h.others = sym k.parts ∙ h.parts in
    let b : k.byte ≡ 34 = cc in
    absurd (bare_byte_is_no_mark k.byte k.bare b)
same_rest text r s (inr h) (inr k) =
    let e : 34 ∷ k.others ≡ 34 ∷ h.others = sym k.parts ∙ h.parts in
    let t : k.others ≡ h.others = cc in
    one_close h.others r s h.closes (subst (λ z. Closes z s) t k.closes)

pub one_first : (text : Line) (w : Word) (r : Line) (v : Word) (s : Line) → BeginsWith text w r → BeginsWith text v s → (w ≡ v) × (r ≡ s)
one_first text w r v s h k =
    let rests : r ≡ s = same_rest text r s (first_of_both text w r h) (first_of_both text v s k) in
    (append_cancel_right w v s (ap (λ z. w ++ z) (sym rests) ∙ sym h.parts ∙ k.parts), rests)

-- ---- no word, and the word that is found

pub not_quoted : (text others : Line) → text ≡ 34 ∷ others → ((rest : Line) → Closes others rest → ⊥) → (w : Word) (rest : Line) → BeginsWith text w rest → ⊥
not_quoted text others e none w rest h = split (first_of_both text w rest h)
  where
    split : BareFirst text rest ⊎ QuotedFirst text rest → ⊥
    split (inl b) = let s : b.byte ∷ b.others ≡ 34 ∷ others = sym b.parts ∙ e in let m : b.byte ≡ 34 = cc in bare_byte_is_no_mark b.byte b.bare m
    split (inr q) = let s : 34 ∷ q.others ≡ 34 ∷ others = sym q.parts ∙ e in let t : q.others ≡ others = cc in none rest (subst (λ z. Closes z rest) t q.closes)

pub not_first : (text : Line) (b : ℕ) (others : Line) → text ≡ b ∷ others → (b ≡ 34 → ⊥) → is_bare_byte b ≡ false → (w : Word) (rest : Line) → BeginsWith text w rest → ⊥
not_first text b others e mark bare w rest h = split (first_of_both text w rest h)
  where
    split : BareFirst text rest ⊎ QuotedFirst text rest → ⊥
    split (inl f) = let s : f.byte ∷ f.others ≡ b ∷ others = sym f.parts ∙ e in let t : f.byte ≡ b = cc in true≢false (sym f.bare ∙ ap is_bare_byte t ∙ bare)
    split (inr q) = let s : 34 ∷ q.others ≡ b ∷ others = sym q.parts ∙ e in let m : b ≡ 34 = cc in mark m

pub nothing_begins : (text : Line) → length text ≡ 0 → (w : Word) (rest : Line) → BeginsWith text w rest → ⊥
nothing_begins text e w rest h = split (first_of_both text w rest h)
  where
    split : BareFirst text rest ⊎ QuotedFirst text rest → ⊥
    split (inl f) = omega (arith, ap length f.parts, e)
    split (inr q) = omega (arith, ap length q.parts, e)

pub word_or_none : (text : Line) (rest : Bor (List ℕ)) (ends : Bool) → BareFirst text rest.now ⊎ QuotedFirst text rest.now → (IsTrue ends ↔ EndsWord rest.now) → MatchOption (then_some ends rest) ((word : Word) (r : Line) → BeginsWith text word r → ⊥) (λ r. (word : Word) × BeginsWith text word r.now)
word_or_none text rest true (inl h) ended = bare_begins text rest.now h (ended.0 refl)
word_or_none text rest true (inr h) ended = quoted_begins text rest.now h (ended.0 refl)
word_or_none text rest false found ended = λ w r h. true≢false (sym (ended.1 (subst EndsWord (same_rest text r rest.now (first_of_both text w r h) found) h.ends)))

-- a word begins with a byte that is no blank
starts_bare : (w : Word) → IsBare w → (b : ℕ) × (bs : List ℕ) × (w ≡ b ∷ bs) × (is_blank b ≡ false)
starts_bare [] bare = absurd (let n : 0 < length {A = ℕ} [] = bare.nonempty in omega (arith, n))
starts_bare (b ∷ bs) bare = (b, bs, refl, bare_is_no_blank b (and_parts (is_bare_byte b) (list_all is_bare_byte bs) bare.bytes).0)

pub word_starts : (w : Word) → IsWord w → (b : ℕ) × (bs : List ℕ) × (w ≡ b ∷ bs) × (is_blank b ≡ false)
word_starts w h = elim h.1 [
  | inl b ↦ starts_bare w b.0
  | inr q ↦ (34, q.0 ++ 34 ∷ [], q.1, refl)
]

pub rest_is_shorter : (text : Line) (w : Word) (rest : Line) → BeginsWith text w rest → length rest < length text
rest_is_shorter text w rest h =
    let s : (b : ℕ) × (bs : List ℕ) × (w ≡ b ∷ bs) × (is_blank b ≡ false) = word_starts w h.is_word in
    omega (arith, ap length h.parts, length-append w rest, ap length s.2)
