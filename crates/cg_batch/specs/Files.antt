-- The files of a run of scripts: those that its history may not take the place of.
use Rattle.std.specs.Prelude.{◌≡◌, ◌⊎◌, ℕ, Bool, true, List}
use Rattle.std.specs.List.{list_any}
use Rattle.cg_program.specs.Files.{IsOfWord}

-- a file is known to be that of the world that the word names, or of one of the scripts
abbrev pub IsInput : Bool → (List ℕ → Bool) → List ℕ → List (List ℕ) → Type 0
IsInput is_read is_same world scripts = IsOfWord is_read is_same world ⊎ (list_any is_same scripts ≡ true)
