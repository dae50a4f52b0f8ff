-- The laws of world texts, for contracts to cite.
use Rattle.std.specs.Prelude.{◌≡◌, ℕ, ◌≤◌, List, length}
use Rattle.cg_model.specs.Tree.{Tree}
use Rattle.cg_model.specs.Sound.{Sound}
use Rattle.cg_world.specs.Representable.{IsRepresentable}
use Rattle.cg_world_text.specs.World.{SpellsWorld, world_text}

-- a text spells one world at most
abbrev pub OneWorld : Type 0
OneWorld = (text : List ℕ) (T U : Tree) → SpellsWorld text T → SpellsWorld text U → T ≡ U

-- the text that is written for a sound tree that code can hold spells the tree, within the bound on texts
abbrev pub WrittenIsSpelled : Type 0
WrittenIsSpelled = (T : Tree) → Sound T → IsRepresentable T → length (world_text T) ≤ 16777216 → SpellsWorld (world_text T) T
