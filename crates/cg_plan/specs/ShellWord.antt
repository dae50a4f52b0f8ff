-- Words between single quotes, and how a POSIX shell reads a text (the standard's Shell Command Language, Quoting and Token
-- Recognition).
use Rattle.std.specs.Prelude.{◌≡◌, ℕ, ◌==◌, ◌&&◌, ◌||◌, Bool, cond, nat_le, List, [], ◌∷◌, ◌++◌, Option, Some, None, codes}
use Rattle.std.specs.List.{flat_map}
use Rattle.std.specs.Option.{option_map}

-- ---- what is written

-- a byte between single quotes: a quote ends them, stands behind a backslash, and begins them again
abbrev pub shell_byte : ℕ → List ℕ
shell_byte b = cond (b == 39) (codes "'\\''") (b ∷ [])

-- a word: its bytes between single quotes
abbrev pub shell_word : List ℕ → List ℕ
shell_word bytes = 39 ∷ flat_map shell_byte bytes ++ 39 ∷ []

-- ---- what is read

-- what a shell finds in a text: words, the sign that sends what a command writes into the file behind it, and ends of lines
pub data Token : Type 0 where
  Word : List ℕ → Token
  Into End : Token

-- where a shell is: between words, in a comment, or lost at what this reading leaves out; and in a word, between its quotes, or
-- behind a backslash, with the bytes of the word so far
pub data Place : Type 0 where
  Between Comment Lost : Place
  InWord Quoted Behind : List ℕ → Place

-- what a byte is outside of quotes
pub data Sign : Type 0 where
  Blank Newline Arrow Hash Quote Backslash Plain Other : Sign

-- a small letter or a minus: what stands for itself and is all that is needed here
abbrev pub is_plain : ℕ → Bool
is_plain b = (nat_le 97 b && nat_le b 122) || (b == 45)

abbrev pub sign_of : ℕ → Sign
sign_of b =
    cond (b == 32) Blank
    (cond (b == 10) Newline
    (cond (b == 62) Arrow
    (cond (b == 35) Hash
    (cond (b == 39) Quote
    (cond (b == 92) Backslash
    (cond (is_plain b) Plain Other))))))

-- the place behind a byte, and what was found
abbrev pub between : ℕ → Sign → Place × List Token
between b Blank = (Between, [])
between b Newline = (Between, End ∷ [])
between b Arrow = (Between, Into ∷ [])
between b Hash = (Comment, [])
between b Quote = (Quoted [], [])
between b Backslash = (Behind [], [])
between b Plain = (InWord (b ∷ []), [])
between b Other = (Lost, [])

-- in a word
abbrev pub in_word : List ℕ → ℕ → Sign → Place × List Token
in_word w b Blank = (Between, Word w ∷ [])
in_word w b Newline = (Between, Word w ∷ End ∷ [])
in_word w b Arrow = (Lost, [])
in_word w b Hash = (InWord (w ++ b ∷ []), [])
in_word w b Quote = (Quoted w, [])
in_word w b Backslash = (Behind w, [])
in_word w b Plain = (InWord (w ++ b ∷ []), [])
in_word w b Other = (Lost, [])

-- anywhere: between quotes each byte stands for itself up to the next quote, and behind a backslash one does
abbrev pub behind : Place → ℕ → Place × List Token
behind Between b = between b (sign_of b)
behind Comment b = cond (b == 10) (Between, End ∷ []) (Comment, [])
behind Lost b = (Lost, [])
behind (InWord w) b = in_word w b (sign_of b)
behind (Quoted w) b = (cond (b == 39) (InWord w) (Quoted (w ++ b ∷ [])), [])
behind (Behind w) b = (cond (b == 10) Lost (InWord (w ++ b ∷ [])), [])

-- where a text may end
abbrev pub at_end : Place → Option (List Token)
at_end Between = Some []
at_end Comment = Some []
at_end Lost = None
at_end (InWord w) = Some (Word w ∷ [])
at_end (Quoted w) = None
at_end (Behind w) = None

-- tokens before those that are found
abbrev pub found_before : List Token → Option (List Token) → Option (List Token)
found_before [] found = found
found_before (t ∷ ts) found = option_map (λ others. t ∷ others) (found_before ts found)

-- what is found from a place on
abbrev pub found_from : Place → List ℕ → Option (List Token)
found_from place [] = at_end place
found_from place (b ∷ text) = let next = behind place b in found_before next.1 (found_from next.0 text)

-- what a shell finds in a text
abbrev pub tokens_of : List ℕ → Option (List Token)
tokens_of text = found_from Between text

-- ---- the law

-- each word that is written is read, and it alone
abbrev pub WordsAreRead : Type 0
WordsAreRead = (w : List ℕ) → tokens_of (shell_word w) ≡ Some (Word w ∷ [])
