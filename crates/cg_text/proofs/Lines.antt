-- An empty line behind the last newline says nothing.
use Rattle.std.proofs.Common.{inl, inr, ◌↔◌, List, [], ◌∷◌, None, refl, true≢false, arith}
use Rattle.std.proofs.lemmas.Str.{IsUtf8-nil}
use Rattle.cg_text.specs.Words.{Line, Word, without_empty_last, Says, SayAll}

empty_says_nothing : Says [] None
empty_says_nothing = (record { short = omega arith; text = IsUtf8-nil }, refl)

-- a line and what lines say that follow it
one_more : (line : Line) (ls ks : List Line) → ((said : List (List Word)) → SayAll ls said → SayAll ks said) → (said : List (List Word)) → SayAll (line ∷ ls) said → SayAll (line ∷ ks) said
one_more line ls ks f said (inl h) = inl (h.0, f said h.1)
one_more line ls ks f said (inr h) = inr (h.0, h.1, h.2, h.3, f h.1 h.4)

pub parts_say : (ps : List Line) (said : List (List Word)) → SayAll (without_empty_last ps) said → SayAll ps said
parts_say [] said h = h
parts_say ([] ∷ []) said h = inl (empty_says_nothing, h)
parts_say ((b ∷ l) ∷ []) said h = h
parts_say (l ∷ m ∷ ps) said h = one_more l (without_empty_last (m ∷ ps)) (m ∷ ps) (parts_say (m ∷ ps)) said h

pub lines_say : (ps : List Line) (said : List (List Word)) → SayAll ps said → SayAll (without_empty_last ps) said
lines_say [] said h = h
lines_say ([] ∷ []) said (inl h) = h.1
lines_say ([] ∷ []) said (inr h) = absurd (true≢false h.2.1)
lines_say ((b ∷ l) ∷ []) said h = h
lines_say (l ∷ m ∷ ps) said h = one_more l (m ∷ ps) (without_empty_last (m ∷ ps)) (lines_say (m ∷ ps)) said h

pub say_parts : (ps : List Line) (said : List (List Word)) → SayAll (without_empty_last ps) said ↔ SayAll ps said
say_parts ps said = (parts_say ps said, lines_say ps said)
