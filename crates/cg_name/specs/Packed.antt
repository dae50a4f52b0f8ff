-- A path as one text: for each name a zero byte and the name's bytes. No name has a zero byte.
use Rattle.std.specs.Prelude.{◌≡◌, ℕ, ◌==◌, ◌||◌, Bool, cond, List, [], ◌∷◌, ◌++◌}
use Rattle.cg_name.specs.Name.{Name}
use Rattle.cg_name.specs.Path.{Path, IsPath}
use Rattle.cg_name.specs.Word.{is_plain_byte}

-- the text of a path
abbrev pub packed_text : Path → List ℕ
packed_text [] = []
packed_text (n ∷ p) = 0 ∷ (n ++ packed_text p)

-- what stands before the first zero byte
abbrev pub first_name : List ℕ → Name
first_name [] = []
first_name (b ∷ bs) = cond (b == 0) [] (b ∷ first_name bs)

-- what stands behind each zero byte, up to the next
abbrev pub names_in : List ℕ → Path
names_in [] = []
names_in (b ∷ bs) = cond (b == 0) (first_name bs ∷ names_in bs) (names_in bs)

-- nothing, or a zero byte and more
abbrev pub BeginsName : List ℕ → Type 0
BeginsName [] = Unit {0}
BeginsName (b ∷ bs) = b ≡ 0

-- the text of a path of a group
pub record IsPacked (bytes : List ℕ) : Type 0 where
  pub start : BeginsName bytes
  pub path : IsPath (names_in bytes)

-- a zero byte, or a plain one
abbrev pub is_plain_or_zero : ℕ → Bool
is_plain_or_zero b = (b == 0) || is_plain_byte b

-- a zero byte is written as a slash
abbrev pub slashed : ℕ → ℕ
slashed b = cond (b == 0) 47 b
