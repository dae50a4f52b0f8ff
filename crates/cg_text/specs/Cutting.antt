-- The first word of a text, for the functions that cut lines.
use Rattle.std.specs.Prelude.{◌≡◌, ◌==◌, ◌||◌, not, ℕ, Bool, false, cond, List, [], ◌∷◌, ◌++◌}
use Rattle.cg_name.specs.Word.{is_blank, is_special, IsWord, StandFor}
use Rattle.cg_text.specs.Words.{Line, Word, EndsWord}

-- the text behind the bytes at its front that pass a test
abbrev pub behind : (ℕ → Bool) → List ℕ → List ℕ
behind p [] = []
behind p (b ∷ bs) = cond (p b) (behind p bs) (b ∷ bs)

-- the text begins with a blank
abbrev pub starts_blank : List ℕ → Bool
starts_blank [] = false
starts_blank (b ∷ bs) = is_blank b

-- the text begins with a byte that is no blank
abbrev pub starts_word : List ℕ → Bool
starts_word [] = false
starts_word (b ∷ bs) = not (is_blank b)

-- the text begins with a number sign
abbrev pub starts_sign : List ℕ → Bool
starts_sign [] = false
starts_sign (b ∷ bs) = b == 35

-- a byte that may stand behind a backslash: a mark, or an `n` for a newline
abbrev pub is_escaped : ℕ → Bool
is_escaped b = is_special b || (b == 110)

-- the text behind an opening quotation mark is quoted bytes, the closing one and the rest
pub record Closes (text rest : List ℕ) : Type 0 where
  pub body : List ℕ
  pub bytes : List ℕ
  pub parts : text ≡ body ++ 34 ∷ rest
  pub stand : StandFor body bytes

-- the text is a word and the rest, which goes on with a blank or is empty
pub record BeginsWith (text : Line) (word : Word) (rest : Line) : Type 0 where
  pub parts : text ≡ word ++ rest
  pub is_word : IsWord word
  pub ends : EndsWord rest
