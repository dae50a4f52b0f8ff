-- The worlds that a run compares, and what it tells of them.
use Rattle.std.specs.Prelude.{◌≡◌, ◌≢◌, ◌⊎◌, ℕ, List, Option, IfSome}
use Rattle.cg_model.specs.Tree.{Tree}
use Rattle.cg_diff.specs.Difference.{difference_text}
use Rattle.cg_lines.specs.Lines.{Reading}
use Rattle.cg_program.specs.Named.{named, DoneOverNamed}
use Rattle.cg_program.specs.Program.{DoneOver}
use Rattle.cg_script.specs.WorldPart.{HasNoWorld, ReadsWorld}

-- a world stands at the head of a text, where that is known, and this holds of the tree A and of it
abbrev pub HoldsWith : (Tree → Tree → Type 0) → Tree → Option (List ℕ) → Type 0
HoldsWith P A text = IfSome text (λ bytes. (B : Tree) × (rest : Option (List ℕ)) × ReadsWorld bytes B rest × P A B)

-- no world stands there
abbrev pub HasNone : Tree → Option (List ℕ) → Type 0
HasNone A text = IfSome text HasNoWorld

-- the same of two worlds that words name: the second stands behind the first where both words name standard input
abbrev pub HoldsOfNamed : (Tree → Tree → Type 0) → Option (List ℕ) → (List ℕ → Option (List ℕ)) → List ℕ → List ℕ → Type 0
HoldsOfNamed P standard file before after = DoneOverNamed (HoldsWith P) standard file before after

-- one of the two words names no world
abbrev pub NameNoWorlds : Option (List ℕ) → (List ℕ → Option (List ℕ)) → List ℕ → List ℕ → Type 0
NameNoWorlds standard file before after = IfSome (named standard file before) HasNoWorld ⊎ DoneOverNamed HasNone standard file before after

-- of two readers: the second world stands behind the first where there is no second one
abbrev pub HaveNoWorlds : Option (List ℕ) → Option Reading → Type 0
HaveNoWorlds first second = IfSome first HasNoWorld ⊎ DoneOver HasNone first second

-- this is told of the two trees
abbrev pub IsTold : List ℕ → Tree → Tree → Type 0
IsTold text A B = text ≡ difference_text A B

-- they differ, and this is told of that
abbrev pub Differ : List ℕ → Tree → Tree → Type 0
Differ text A B = (A ≢ B) × IsTold text A B
