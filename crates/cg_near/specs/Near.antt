-- Names of interface files that are near a word.
use Rattle.std.specs.Prelude.{ℕ, ◌*◌, ◌≤◌, List, length, nat_eq}
use Rattle.std.specs.Str.{chars}
use Rattle.strsim.specs.Edits.{levenshtein_row}
use Rattle.cg_name.specs.FileName.{file_word}
use Rattle.cg_name.specs.declared.file_name.FileName.{FileName}

-- how many characters have to be put in, left out or changed at least until the one text is the other (the Levenshtein distance)
abbrev pub edits : List ℕ → List ℕ → ℕ
edits a b = levenshtein_row nat_eq (chars a) (chars b) (length (chars b))

-- from a word to the name of a file
abbrev pub edits_to : List ℕ → FileName → ℕ
edits_to word file = edits word (file_word file)

-- a file is near a word: it takes at most one edit for three characters of the word
abbrev pub IsNear : List ℕ → FileName → Type 0
IsNear word file = 3 * edits_to word file ≤ length (chars word)

-- the file is near the word, and no other one is nearer
pub record IsNearest (word : List ℕ) (file : FileName) : Type 0 where
  pub near : IsNear word file
  pub least : (other : FileName) → edits_to word file ≤ edits_to word other
