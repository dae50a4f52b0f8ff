-- What single files say, where their bytes are known.
use Rattle.std.specs.Prelude.{◌≡◌, ◌⊎◌, ℕ, Bool, true, List, ◌∷◌, ◌++◌, Option, None, IfSome}
use Rattle.std.specs.List.{flat_map}
use Rattle.cg_name.specs.Path.{Path}

-- the bytes of the file of a name, where they are known
abbrev pub Known : Type 0
Known = List ℕ → Option (List ℕ)

-- whether it is known that the file of a name can't be opened
abbrev pub Missing : Type 0
Missing = List ℕ → Bool

-- the folder of the group at a path, below that of the root
abbrev pub folder_at : List ℕ → Path → List ℕ
folder_at root p = root ++ flat_map (λ n. 47 ∷ n) p

-- a file in a folder
abbrev pub file_in : List ℕ → List ℕ → List ℕ
file_in folder name = folder ++ 47 ∷ name

-- what was read of a file: the bytes that it is known to have, or nothing; and nothing where it is missing
pub record IsReadOf (file : Known) (missing : Missing) (name : List ℕ) (read : Option (List ℕ)) : Type 0 where
  pub bytes : IfSome read (λ text. IfSome (file name) (λ known. text ≡ known))
  pub absent : missing name ≡ true → read ≡ None

-- A value is what a file says, where its bytes are known, or the one that stands where there is no file. Where it is missing it is the latter.
pub record IsSaid {A : Type 0} (file : Known) (missing : Missing) (name : List ℕ) (Says : List ℕ → A → Type 0) (none value : A) : Type 0 where
  pub says : (value ≡ none) ⊎ IfSome (file name) (λ text. Says text value)
  pub absent : missing name ≡ true → value ≡ none
