-- A line is cut into words in one way, and says one thing.
use Rattle.std.proofs.Common.{◌≡◌, inl, inr, ℕ, true, false, List, [], ◌∷◌, ◌++◌, Some, None, refl, ap, sym, subst, ◌∙◌, append_assoc, true≢false}
use Rattle.std.proofs.lemmas.List.{append-nil}
use Rattle.std.specs.List.{list_all}
use Rattle.std.specs.Str.Lines.{strip_carriage_return}
use Rattle.cg_name.specs.Word.{is_blank, IsWord}
use Rattle.cg_text.specs.Cutting.{behind, BeginsWith}
use Rattle.cg_text.specs.Laws.{OneCut, OneSaying, OneText}
use Rattle.cg_text.specs.Words.{Line, Word, Cuts}
use Rattle.cg_text.proofs.Lists.{all_append, behind_none, behind_row, behind_again, front_row}
use Rattle.cg_text.proofs.FirstWord.{one_first, word_starts}

-- ---- the first word

behind_word : (w rest : List ℕ) → IsWord w → behind is_blank (w ++ rest) ≡ w ++ rest
behind_word w rest h =
    let s : (b : ℕ) × (bs : List ℕ) × (w ≡ b ∷ bs) × (is_blank b ≡ false) = word_starts w h in
    ap (λ z. behind is_blank (z ++ rest)) s.2 ∙ behind_none is_blank s.0 (s.1 ++ rest) s.3 ∙ ap (λ z. z ++ rest) (sym s.2)

pub first_cut : (line : Line) (w : Word) (ws : List Word) → Cuts line (w ∷ ws) → (rest : Line) × BeginsWith (behind is_blank line) w rest × Cuts rest ws
first_cut line w ws h =
    (h.1, record { parts = ap (behind is_blank) (h.2 ∙ append_assoc h.0 w h.1) ∙ behind_row is_blank h.0 (w ++ h.1) h.3 ∙ behind_word w h.1 h.4; is_word = h.4; ends = h.5 }, h.6)

pub cut_first : (line : Line) (w : Word) (rest : Line) (ws : List Word) → BeginsWith (behind is_blank line) w rest → Cuts rest ws → Cuts line (w ∷ ws)
cut_first line w rest ws h c =
    let front : (front : List ℕ) × (line ≡ front ++ behind is_blank line) × (list_all is_blank front ≡ true) = front_row is_blank line in
    (front.0, rest, front.1 ∙ ap (λ z. front.0 ++ z) h.parts ∙ sym (append_assoc front.0 w rest), front.2, h.is_word, h.ends, c)

-- no byte is past the blanks of a line of no words
all_blank : (line : Line) → list_all is_blank line ≡ true → behind is_blank line ≡ []
all_blank line h = ap (behind is_blank) (sym (append-nil line)) ∙ behind_row is_blank line [] h

no_word : (line : Line) (w : Word) (ws : List Word) → list_all is_blank line ≡ true → Cuts line (w ∷ ws) → ⊥
no_word line w ws h c =
    let f : (rest : Line) × BeginsWith (behind is_blank line) w rest × Cuts rest ws = first_cut line w ws c in
    let s : (b : ℕ) × (bs : List ℕ) × (w ≡ b ∷ bs) × (is_blank b ≡ false) = word_starts w f.1.is_word in
    let e : [] ≡ s.0 ∷ s.1 ++ f.0 = sym (all_blank line h) ∙ f.1.parts ∙ ap (λ z. z ++ f.0) s.2 in
    cc

-- ---- in one way

pub one_cut : OneCut
one_cut line [] [] h k = refl
one_cut line [] (v ∷ vs) h k = absurd (no_word line v vs h k)
one_cut line (w ∷ ws) [] h k = absurd (no_word line w ws k h)
one_cut line (w ∷ ws) (v ∷ vs) h k =
    let f : (rest : Line) × BeginsWith (behind is_blank line) w rest × Cuts rest ws = first_cut line w ws h in
    let g : (rest : Line) × BeginsWith (behind is_blank line) v rest × Cuts rest vs = first_cut line v vs k in
    let same : (w ≡ v) × (f.0 ≡ g.0) = one_first (behind is_blank line) w f.0 v g.0 f.1 g.1 in
    λ i. same.0 i ∷ one_cut g.0 ws vs (subst (λ r. Cuts r ws) same.1 f.2) g.2 i

pub one_saying : OneSaying
one_saying line None None h k = refl
one_saying line None (Some vs) h k = absurd (true≢false (sym h.1 ∙ k.1))
one_saying line (Some ws) None h k = absurd (true≢false (sym k.1 ∙ h.1))
one_saying line (Some ws) (Some vs) h k = ap Some (one_cut (strip_carriage_return line) ws vs h.2 k.2)

pub one_text : OneText
one_text [] said told h k = h ∙ sym k
one_text (line ∷ lines) said told (inl h) (inl k) = one_text lines said told h.1 k.1
one_text (line ∷ lines) said told (inl h) (inr k) = absurd (let e : None ≡ Some k.0 = one_saying line None (Some k.0) h.0 k.2 in cc)
one_text (line ∷ lines) said told (inr h) (inl k) = absurd (let e : None ≡ Some h.0 = one_saying line None (Some h.0) k.0 h.2 in cc)
one_text (line ∷ lines) said told (inr h) (inr k) =
    let e : Some h.0 ≡ Some k.0 = one_saying line (Some h.0) (Some k.0) h.2 k.2 in
    let same : h.0 ≡ k.0 = cc in
    h.3 ∙ (λ i. same i ∷ one_text lines h.1 k.1 h.4 k.4 i) ∙ sym k.3

-- ---- word by word

-- the line is cut into the words that are done and those of the rest, which begins with no blank
pub record IsCutTo (line : Line) (done : List Word) (rest : Line) : Type 0 where
  pub whole : (ws : List Word) → Cuts rest ws → Cuts line (done ++ ws)
  pub parted : (ws : List Word) → Cuts line ws → (vs : List Word) × (ws ≡ done ++ vs) × Cuts rest vs
  pub stopped : behind is_blank rest ≡ rest

cuts_behind : (line : Line) (ws : List Word) → Cuts (behind is_blank line) ws → Cuts line ws
cuts_behind line [] h =
    let front : (front : List ℕ) × (line ≡ front ++ behind is_blank line) × (list_all is_blank front ≡ true) = front_row is_blank line in
    ap (list_all is_blank) front.1 ∙ all_append is_blank front.0 (behind is_blank line) front.2 h
cuts_behind line (w ∷ ws) h =
    let f : (rest : Line) × BeginsWith (behind is_blank (behind is_blank line)) w rest × Cuts rest ws = first_cut (behind is_blank line) w ws h in
    cut_first line w f.0 ws (subst (λ z. BeginsWith z w f.0) (behind_again is_blank line) f.1) f.2

behind_cuts : (line : Line) (ws : List Word) → Cuts line ws → Cuts (behind is_blank line) ws
behind_cuts line [] h = ap (list_all is_blank) (all_blank line h)
behind_cuts line (w ∷ ws) h =
    let f : (rest : Line) × BeginsWith (behind is_blank line) w rest × Cuts rest ws = first_cut line w ws h in
    cut_first (behind is_blank line) w f.0 ws (subst (λ z. BeginsWith z w f.0) (sym (behind_again is_blank line)) f.1) f.2

pub cut_from_start : (line : Line) → IsCutTo line [] (behind is_blank line)
cut_from_start line = record { whole = cuts_behind line; parted = λ ws h. (ws, refl, behind_cuts line ws h); stopped = behind_again is_blank line }

pub cut_more : (line : Line) (done : List Word) (rest : Line) (w : Word) (others : Line) → IsCutTo line done rest → BeginsWith rest w others → IsCutTo line (done ++ w ∷ []) (behind is_blank others)
cut_more line done rest w others h first =
    let begins : BeginsWith (behind is_blank rest) w others = subst (λ z. BeginsWith z w others) (sym h.stopped) first in
    record {
      whole = λ ws c. subst (Cuts line) (sym (append_assoc done (w ∷ []) ws)) (h.whole (w ∷ ws) (cut_first rest w others ws begins (cuts_behind others ws c)));
      parted = λ ws c. more ws (h.parted ws c) begins;
      stopped = behind_again is_blank others;
    }
  where
    more : (ws : List Word) → (vs : List Word) × (ws ≡ done ++ vs) × Cuts rest vs → BeginsWith (behind is_blank rest) w others → (vs : List Word) × (ws ≡ (done ++ w ∷ []) ++ vs) × Cuts (behind is_blank others) vs
    more ws p begins = split p.0 p.1 p.2
      where
        split : (vs : List Word) → ws ≡ done ++ vs → Cuts rest vs → (us : List Word) × (ws ≡ (done ++ w ∷ []) ++ us) × Cuts (behind is_blank others) us
        split [] e c =
            let s : (b : ℕ) × (bs : List ℕ) × (w ≡ b ∷ bs) × (is_blank b ≡ false) = word_starts w begins.is_word in
            let n : [] ≡ s.0 ∷ s.1 ++ others = sym (all_blank rest c) ∙ begins.parts ∙ ap (λ z. z ++ others) s.2 in
            absurd cc
        split (v ∷ vs) e c =
            let f : (r : Line) × BeginsWith (behind is_blank rest) v r × Cuts r vs = first_cut rest v vs c in
            let same : (v ≡ w) × (f.0 ≡ others) = one_first (behind is_blank rest) v f.0 w others f.1 begins in
            (vs, e ∙ ap (λ z. done ++ z ∷ vs) same.0 ∙ sym (append_assoc done (w ∷ []) vs), behind_cuts others vs (subst (λ r. Cuts r vs) same.1 f.2))

pub cut_to_end : (line : Line) (done : List Word) → IsCutTo line done [] → Cuts line done
cut_to_end line done h = subst (Cuts line) (append-nil done) (h.whole [] refl)

pub cut_by_none : (line : Line) (done : List Word) (rest : Line) → IsCutTo line done rest → (rest ≡ [] → ⊥) → ((w : Word) (others : Line) → BeginsWith rest w others → ⊥) → (ws : List Word) → Cuts line ws → ⊥
cut_by_none line done rest h some none ws c = split (h.parted ws c).0 (h.parted ws c).2
  where
    split : (vs : List Word) → Cuts rest vs → ⊥
    split [] k = some (sym h.stopped ∙ all_blank rest k)
    split (v ∷ vs) k =
        let f : (r : Line) × BeginsWith (behind is_blank rest) v r × Cuts r vs = first_cut rest v vs k in
        none v f.0 (subst (λ z. BeginsWith z v f.0) h.stopped f.1)
