-- Which texts are right.
use Rattle.std.specs.Prelude.{ℕ, Bool, List, []}
use Rattle.std.specs.List.{AllByRecursion}
use Rattle.cg_text.specs.Words.{lines_of}
use Rattle.cg_model.specs.Cgroups.{cgroups}
use Rattle.cg_model.specs.History.{Request}
use Rattle.cg_model.specs.Tree.{Tree}
use Rattle.cg_world_text.specs.World.{SpellsWorld}
use Rattle.cg_script.specs.Script.{SpellsScript}
use Rattle.cg_script.specs.Turns.{Turn, Skip, Ask, Fail, AreTurns}
use Rattle.cg_check.specs.declared.kind.Kind.{Kind}
use Rattle.cg_check.specs.declared.kind.Kind.TheVariants.{World, Schedule, Script}

-- a line says nothing, or asks
abbrev pub IsNoFailure : Turn → Type 0
IsNoFailure Skip = Unit {0}
IsNoFailure (Ask k r) = Unit {0}
IsNoFailure Fail = ⊥

-- no line of the text is one that a schedule refuses: each says nothing or a session's request, and there are at most 4,096 names of sessions
abbrev pub IsSchedule : List ℕ → Type 0
IsSchedule text = (turns : List Turn) × AreTurns [] (lines_of text) turns × AllByRecursion IsNoFailure turns

-- the text spells a world, asks as a schedule, or spells a script
abbrev pub IsRight : Kind → List ℕ → Type 0
IsRight World text = (T : Tree) × SpellsWorld text T
IsRight Schedule text = IsSchedule text
IsRight Script text = (requests : List (Request cgroups)) × (aborts : Bool) × SpellsScript text requests aborts
