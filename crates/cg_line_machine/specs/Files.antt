-- The interface file that two words ask for.
use Rattle.std.specs.Prelude.{◌≡◌, ◌⊎◌, ℕ, List, Result}
use Rattle.std.specs.Str.{IsUtf8}
use Rattle.cg_model.specs.File.{file}
use Rattle.cg_name.specs.FileName.{file_word}
use Rattle.cg_name.specs.Path.{Path, SpellsPath}
use Rattle.cg_name.specs.declared.file_name.FileName.{FileName}
use Rattle.cg_name.specs.declared.refusal.Refusal.{Refusal}
use Rattle.cg_replay.specs.Replay.{Replay, tree_now}

-- the bytes are no text, or a word that spells no path
abbrev pub SpellsNoPath : List ℕ → Type 0
SpellsNoPath word = ¬ (IsUtf8 word) ⊎ ((p : Path) → SpellsPath word p → ⊥)

-- the bytes are no text, or not the name of an interface file
abbrev pub NamesNoFile : List ℕ → Type 0
NamesNoFile word = ¬ (IsUtf8 word) ⊎ ((f : FileName) → word ≡ file_word f → ⊥)

-- the words ask for a file of a group, and in the tree as it stands this is it: its text, or why there is none
abbrev pub IsFileAsked : Replay → List ℕ → List ℕ → Result (List ℕ) Refusal → Type 0
IsFileAsked s path name found = (p : Path) × (f : FileName) × SpellsPath path p × (name ≡ file_word f) × (file (tree_now s.core) p f ≡ found)
