-- How a text is cut into lines, and a line into words.
use Rattle.std.specs.Prelude.{◌≡◌, ◌⊎◌, ℕ, ◌≤◌, ◌==◌, Bool, true, false, cond, List, [], ◌∷◌, ◌++◌, length, Option, Some, None, ⊤, if◌then◌else◌}
use Rattle.std.specs.List.{AllByRecursion, slice_split, flat_map, list_all, join_with_byte}
use Rattle.std.specs.Str.{IsUtf8}
use Rattle.std.specs.Str.Lines.{strip_carriage_return}
use Rattle.cg_name.specs.Word.{is_blank, IsWord, FitsLine}

-- the bytes of a text between newlines
abbrev pub Line : Type 0
Line = List ℕ

abbrev pub Word : Type 0
Word = List ℕ

abbrev pub is_newline : ℕ → Bool
is_newline b = b == 10

abbrev pub is_filled : List ℕ → Bool
is_filled [] = false
is_filled (x ∷ xs) = true

-- the parts between newlines; what follows the last newline is a line unless it is empty
abbrev pub without_empty_last : List Line → List Line
without_empty_last [] = []
without_empty_last (l ∷ []) = if is_filled l then l ∷ [] else []
without_empty_last (l ∷ m ∷ ls) = l ∷ without_empty_last (m ∷ ls)

abbrev pub lines_of : List ℕ → List Line
lines_of text = without_empty_last (slice_split is_newline text)

-- a blank follows a word, or the line's end
abbrev pub EndsWord : Line → Type 0
EndsWord [] = ⊤
EndsWord (b ∷ bs) = is_blank b ≡ true

-- a line is these words, with blanks between them and perhaps around them
abbrev pub Cuts : Line → List Word → Type 0
Cuts line [] = list_all is_blank line ≡ true
Cuts line (w ∷ ws) = (front : List ℕ) × (rest : Line) × (line ≡ front ++ w ++ rest) × (list_all is_blank front ≡ true) × IsWord w × EndsWord rest × Cuts rest ws

-- a line that says nothing: there is no byte past its blanks, or a number sign
abbrev pub is_silent : Line → Bool
is_silent [] = true
is_silent (b ∷ line) = cond (is_blank b) (is_silent line) (b == 35)

-- a line within its bound, of text; a carriage return at its end counts and is dropped
pub record IsLine (line : Line) : Type 0 where
  pub short : length line ≤ 65536
  pub text : IsUtf8 (strip_carriage_return line)

-- what a good line says: nothing, or its words
abbrev pub Says : Line → Option (List Word) → Type 0
Says line None = IsLine line × (is_silent (strip_carriage_return line) ≡ true)
Says line (Some ws) = IsLine line × (is_silent (strip_carriage_return line) ≡ false) × Cuts (strip_carriage_return line) ws

-- what good lines say, in order, those left out that say nothing
abbrev pub SayAll : List Line → List (List Word) → Type 0
SayAll [] said = said ≡ []
SayAll (line ∷ lines) said =
    (Says line None × SayAll lines said) ⊎ ((ws : List Word) × (others : List (List Word)) × Says line (Some ws) × (said ≡ ws ∷ others) × SayAll lines others)

-- ---- lines that are written

-- words with single spaces between them
abbrev pub line_of : List Word → Line
line_of ws = join_with_byte 32 ws

-- each line with a newline behind it
abbrev pub text_of : List (List Word) → List ℕ
text_of lines = flat_map (λ ws. line_of ws ++ 10 ∷ []) lines

-- words that may stand together in a line, and say something
pub record IsWrittenLine (ws : List Word) : Type 0 where
  pub words : AllByRecursion FitsLine ws
  pub says : is_silent (line_of ws) ≡ false
  pub short : length (line_of ws) ≤ 65536
