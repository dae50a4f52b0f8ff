-- The world at the head of a text: the part of the text through the first line that ends a world.
use Rattle.std.specs.Prelude.{◌≡◌, ◌⊎◌, ℕ, List, [], ◌∷◌, ◌++◌, Option, Some, None}
use Rattle.std.specs.List.{AllByRecursion, flat_map}
use Rattle.cg_model.specs.Tree.{Tree}
use Rattle.cg_world_text.specs.Reader.{EndsWorld}
use Rattle.cg_world_text.specs.World.{SpellsWorld}
use Rattle.cg_lines.specs.Lines.{HasNoNewline}

-- lines as a text, each with its newline
abbrev pub joined : List (List ℕ) → List ℕ
joined lines = flat_map (λ line. line ++ 10 ∷ []) lines

-- A text is a part and the rest. The part is lines of which the last is the first that ends a world, each with its newline;
-- where the last one has none, nothing follows.
pub record BeginsWithWorld (text part rest : List ℕ) : Type 0 where
  pub lines : List (List ℕ)
  pub last : List ℕ
  pub whole : text ≡ part ++ rest
  pub through : (part ≡ joined lines ++ (last ++ 10 ∷ [])) ⊎ ((part ≡ joined lines ++ last) × (rest ≡ []))
  pub plain : AllByRecursion HasNoNewline (lines ++ last ∷ [])
  pub open_lines : AllByRecursion (λ line. EndsWorld line → ⊥) lines
  pub ended : EndsWorld last

-- the part spells the tree
abbrev pub ReadsWorld : List ℕ → Tree → Option (List ℕ) → Type 0
ReadsWorld text T None = ⊥
ReadsWorld text T (Some rest) = (part : List ℕ) × BeginsWithWorld text part rest × SpellsWorld part T

-- the part of a text through the first line that ends a world spells no tree, or there is none
abbrev pub HasNoWorld : List ℕ → Type 0
HasNoWorld text = (part rest : List ℕ) (T : Tree) → BeginsWithWorld text part rest → SpellsWorld part T → ⊥
