-- What a run shows: an interface file of a group, in the world at the head of a text.
use Rattle.std.specs.Prelude.{◌≡◌, ◌⊎◌, ℕ, List, Option, IfSome, Result, Ok, Err, ⊤}
use Rattle.cg_name.specs.FileName.{file_word}
use Rattle.cg_name.specs.Path.{Path, SpellsPath}
use Rattle.cg_name.specs.declared.file_name.FileName.{FileName}
use Rattle.cg_name.specs.declared.refusal.Refusal.{Refusal}
use Rattle.cg_name.specs.declared.refusal.Refusal.TheVariants.{Syntax, NoGroup, NoFile, Memory, ReadFault, WriteFault}
use Rattle.cg_model.specs.File.{file}
use Rattle.cg_model.specs.Tree.{Tree}
use Rattle.cg_script.specs.WorldPart.{ReadsWorld, HasNoWorld}

-- the word spells no path
abbrev pub SpellsNoPath : List ℕ → Type 0
SpellsNoPath word = (p : Path) → SpellsPath word p → ⊥

-- the word is the name of no interface file
abbrev pub NamesNoFile : List ℕ → Type 0
NamesNoFile word = (f : FileName) → word ≡ file_word f → ⊥

-- in the world at the head of a text, where the text is known, this is the file of a group: its text, or why there is none
abbrev pub IsFileOf : Option (List ℕ) → Path → FileName → Result (List ℕ) Refusal → Type 0
IsFileOf world p f found = IfSome world (λ text. (T : Tree) × (rest : Option (List ℕ)) × ReadsWorld text T rest × (file T p f ≡ found))

-- two words ask for a file of a group, and this is it
abbrev pub Finds : Option (List ℕ) → List ℕ → List ℕ → Result (List ℕ) Refusal → Type 0
Finds world path name found = (p : Path) × (f : FileName) × SpellsPath path p × (name ≡ file_word f) × IsFileOf world p f found

-- why a file is not shown whole, by the refusal: a word spells nothing, or there is no world; the group or its file is absent;
-- or its text was not written whole
abbrev pub WhyNotShown : Option (List ℕ) → List ℕ → List ℕ → Refusal → Type 0
WhyNotShown world path name Syntax = SpellsNoPath path ⊎ (NamesNoFile name ⊎ IfSome world HasNoWorld)
WhyNotShown world path name NoGroup = Finds world path name (Err NoGroup)
WhyNotShown world path name NoFile = Finds world path name (Err NoFile)
WhyNotShown world path name Memory = ⊤
WhyNotShown world path name ReadFault = ⊤
WhyNotShown world path name WriteFault = (text : List ℕ) × Finds world path name (Ok text)
WhyNotShown world path name _ = ⊥
