-- The script of the code that a text spells, and the tree that a history leaves.
use Rattle.std.specs.Prelude.{ℕ, Bool, List, map}
use Rattle.cg_model.specs.Cgroups.{cgroups}
use Rattle.cg_model.specs.History.{History, Request}
use Rattle.cg_model.specs.Run.{tree_of}
use Rattle.cg_model.specs.Tree.{Tree}
use Rattle.cg_history.specs.Meaning.{request_of}
use Rattle.cg_world_text.specs.World.{world_text}
use Rattle.cg_script.specs.Script.{SpellsScript}
use Rattle.cg_script.specs.declared.script.Script.{Script}

-- the text spells the script
abbrev pub SpellsAs : List ℕ → Script → Type 0
SpellsAs text script = SpellsScript text (map request_of script.requests.items) script.aborts

-- it spells none
abbrev pub SpellsNoScript : List ℕ → Type 0
SpellsNoScript text = (requests : List (Request cgroups)) (aborts : Bool) → SpellsScript text requests aborts → ⊥

-- the text of the world that a history leaves, which began on this tree
abbrev pub text_left : Tree → History cgroups → List ℕ
text_left opening h = world_text (tree_of cgroups opening h)
