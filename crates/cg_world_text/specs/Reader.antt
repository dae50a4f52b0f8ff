-- What a reader of a world's lines has taken, and what lines spell.
use Rattle.std.specs.Prelude.{◌↔◌, ◌⊎◌, List, [], ◌∷◌, ◌++◌, Some, codes}
use Rattle.cg_text.specs.Words.{Line, Word, Says, SayAll}
use Rattle.cg_model.specs.Tree.{Tree}
use Rattle.cg_world_text.specs.declared.stage.Stage.{Stage}
use Rattle.cg_world_text.specs.declared.stage.Stage.TheVariants.{Ended}
use Rattle.cg_world_text.specs.declared.statement.Statement.{Statement}
use Rattle.cg_world_text.specs.declared.version.Version as versions
use Rattle.cg_world_text.specs.Stage.{Leads}
use Rattle.cg_world_text.specs.World.{Arranges, SpellsEach}

-- good lines spell a tree, sound or not, in one of the versions
pub record SpellTree (lines : List Line) (T : Tree) : Type 0 where
  pub said : List (List Word)
  pub lines_say : SayAll lines said
  pub version : versions.Version
  pub statements : List Statement
  pub spelled : SpellsEach version said statements
  pub arranged : Arranges version statements T

-- with some that follow, these lines spell a tree
abbrev pub BeginTree : List Line → Type 0
BeginTree lines = (others : List Line) × (T : Tree) × SpellTree (lines ++ others) T

-- the line says `end`
abbrev pub EndsWorld : Line → Type 0
EndsWorld line = Says line (Some (codes "end" ∷ []))

-- one of the lines says it
abbrev pub SomeEnds : List Line → Type 0
SomeEnds [] = ⊥
SomeEnds (line ∷ lines) = EndsWorld line ⊎ SomeEnds lines

-- all of a world was read
abbrev pub HasEnded : Stage → Type 0
HasEnded (Ended v T) = Unit {0}
HasEnded _ = ⊥

-- A reader has taken these lines: with any that follow they spell what the reader makes of those, and all was read where one of
-- them says `end`.
pub record HasTaken (reader : Stage) (lines : List Line) : Type 0 where
  pub goes_on : (others : List Line) (T : Tree) → SpellTree (lines ++ others) T ↔ Leads reader others T
  pub ended : HasEnded reader ↔ SomeEnds lines
