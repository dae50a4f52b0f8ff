-- The law of differences, for a contract to cite.
use Rattle.std.specs.Prelude.{◌≡◌, ◌↔◌, []}
use Rattle.cg_model.specs.Tree.{Tree}
use Rattle.cg_diff.specs.Difference.{difference_text}

-- nothing is told exactly where the two trees are the same
abbrev pub NothingWhereSame : Type 0
NothingWhereSame = (A B : Tree) → (difference_text A B ≡ []) ↔ (A ≡ B)
