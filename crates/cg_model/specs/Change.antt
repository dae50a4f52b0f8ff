-- Changes of a tree, and going back by them: a list of changes is both what a command did and its inverse (this project's
-- own choice).
use Rattle.std.specs.Prelude.{◌≡◌, List, [], ◌∷◌, Option}
use Rattle.cg_model.specs.Tree.{Tree}
use Rattle.cg_model.specs.Key.{Key, ValueOf, value_at, put}

-- a key, what it held before, and what it holds after
pub record Change : Type 0 where
  pub key : Key
  pub before : Option (ValueOf key)
  pub left : Option (ValueOf key)

-- a change by its three parts
abbrev pub change : (k : Key) → Option (ValueOf k) → Option (ValueOf k) → Change
change k b l = record { key = k; before = b; left = l }

-- the tree after changes
abbrev pub done : List Change → Tree → Tree
done [] T = T
done (c ∷ cs) T = done cs (put c.key c.left T)

-- the tree with every key put back to its value before, the last one first
abbrev pub undone : List Change → Tree → Tree
undone [] T = T
undone (c ∷ cs) T = put c.key c.before (undone cs T)

-- every key holds the value left: the inverse fits
abbrev pub Fits : List Change → Tree → Type 0
Fits [] T = Unit {0}
Fits (c ∷ cs) T = (value_at T c.key ≡ c.left) × Fits cs T
