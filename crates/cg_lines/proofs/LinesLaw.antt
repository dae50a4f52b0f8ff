-- A step through a text is a step through its lines.
use Rattle.std.proofs.Common.{◌≡◌, ◌≢◌, ℕ, ◌<◌, false, List, [], ◌∷◌, ◌++◌, length, All, sym, ap, ◌∙◌, refl, inl, inr, arith, subst, ne_eqb}
use Rattle.std.specs.List.{slice_split, onto_first}
use Rattle.std.proofs.lemmas.Bool.{cases_Bool}
use Rattle.std.proofs.lemmas.List.Splits.{slice_split_none, slice_split_at, slice_split-cons_yes, slice_split-cons_no}
use Rattle.std.proofs.lemmas.List.Elements.{All-weaker}
use Rattle.cg_text.specs.Words.{is_newline, without_empty_last, lines_of}
use Rattle.cg_lines.specs.Lines.{HasNoNewline, BeginsWithLine, StepsAreLines}
use Rattle.cg_lines.specs.declared.lines.LineKind.TheVariants.{End, TooLong, Text, Last}

-- a text that is cut at newlines has a first piece
first_piece_of : (text : List ℕ) → (piece : List ℕ) × (pieces : List (List ℕ)) × (slice_split is_newline text ≡ piece ∷ pieces)
first_piece_of [] = ([], [], refl)
first_piece_of (b ∷ bytes) =
    let more = first_piece_of bytes in
    elim (cases_Bool (is_newline b)) [
      | inl is ↦ ([], slice_split is_newline bytes, slice_split-cons_yes is_newline b bytes is)
      | inr isnt ↦ (b ∷ more.0, more.1, slice_split-cons_no is_newline b bytes isnt ∙ ap (onto_first b) more.2)
    ]

-- that no byte is a newline, in the form that the lemmas on pieces take
passes_no_test : (line : List ℕ) → HasNoNewline line → All (λ b. is_newline b ≡ false) line
passes_no_test line h = All-weaker (λ b. b ≢ 10) (λ b. is_newline b ≡ false) (λ b ne. ne_eqb b 10 ne) line h

-- what isn't the last piece stays
without_empty_last-cons : (line : List ℕ) (pieces : List (List ℕ)) (piece : List ℕ) (more : List (List ℕ)) → pieces ≡ piece ∷ more → without_empty_last (line ∷ pieces) ≡ line ∷ without_empty_last pieces
without_empty_last-cons line pieces piece more e =
    subst (λ ps. without_empty_last (line ∷ ps) ≡ line ∷ without_empty_last ps) (sym e) refl

-- a last piece with some byte is a line
last_piece-some : (line : List ℕ) → 0 < length line → without_empty_last (line ∷ []) ≡ line ∷ []
last_piece-some [] h = absurd (omega (arith, h))
last_piece-some (b ∷ bytes) h = refl

-- a piece before a newline is a line
lines_of-newline : (line rest : List ℕ) → HasNoNewline line → lines_of (line ++ 10 ∷ rest) ≡ line ∷ lines_of rest
lines_of-newline line rest h =
    let more = first_piece_of rest in
    ap without_empty_last (slice_split_at is_newline line 10 rest (passes_no_test line h) refl)
    ∙ without_empty_last-cons line (slice_split is_newline rest) more.0 more.1 more.2

-- a text with no newline is one line
lines_of-last : (line : List ℕ) → HasNoNewline line → 0 < length line → lines_of line ≡ line ∷ []
lines_of-last line h some =
    ap without_empty_last (slice_split_none is_newline line (passes_no_test line h)) ∙ last_piece-some line some

-- a text with no byte has no line
pub lines_of-nil : lines_of [] ≡ []
lines_of-nil = refl

-- the first line of a text is the first of its lines
pub lines_of-begins : (text line rest : List ℕ) → BeginsWithLine text line rest → lines_of text ≡ line ∷ lines_of rest
lines_of-begins text line rest h =
    elim h.1 [
      | inl cut ↦ ap lines_of cut ∙ lines_of-newline line rest h.0
      | inr last ↦ ap lines_of last.0 ∙ lines_of-last line h.0 last.1 ∙ ap (λ ls. line ∷ ls) (sym (ap lines_of last.2 ∙ lines_of-nil))
    ]

pub steps_are_lines : StepsAreLines
steps_are_lines text End line rest h = (ap lines_of h.0 ∙ lines_of-nil, ap lines_of h.2 ∙ lines_of-nil)
steps_are_lines text TooLong line rest h = (h.1, h.2, lines_of-begins text h.1 rest h.3)
steps_are_lines text Text line rest h = (h.0, lines_of-begins text line rest (h.1, inl h.2))
steps_are_lines text Last line rest h = (h.0, lines_of-begins text line rest (h.1, inr h.2), ap lines_of h.2.2 ∙ lines_of-nil)
