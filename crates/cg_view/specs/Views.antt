-- The rule over what is published.
use Rattle.std.specs.Prelude.{◌≡◌, ◌≢◌, ℕ, List, [], ◌∷◌, Result, Err}
use mathlib.Core.Option.{some}
use lib.ListN.{get_elem?}
use Rattle.cg_model.specs.File.{file}
use Rattle.cg_model.specs.Tree.{Tree}
use Rattle.cg_name.specs.Path.{Path}
use Rattle.cg_name.specs.declared.file_name.FileName.{FileName}
use Rattle.cg_name.specs.declared.refusal.Refusal.{Refusal}
use Rattle.cg_name.specs.declared.refusal.Refusal.TheVariants.{Full, Memory}
use Rattle.cg_view.specs.Operations.{tree_after, StartsWith}
use Rattle.cg_view.specs.declared.rule.View.{View}
use Rattle.cg_view.specs.declared.shown.Shown.{Shown}

-- what is shown begins with what was seen, and had that opening world, if one was seen
abbrev pub Begins : Shown → View → Type 0
Begins x v = StartsWith (x.opening ∷ []) v.opening × StartsWith x.operations.items v.seen

-- what is shown begins with all that each seat has seen
abbrev pub Keeps : Shown → List View → Type 0
Keeps x views = (seat : ℕ) (v : View) → get_elem? views seat ≡ some v → Begins x v

-- what is seen afterwards is what y shows, and that begins with what was seen
abbrev pub Publishes : View → Shown → Shown → View → Type 0
Publishes v x y w = Begins y v × (w.opening ≡ y.opening ∷ []) × (w.seen ≡ y.operations.items)

-- nothing is seen yet
abbrev pub newcomer : View
newcomer = record { opening = []; seen = [] }

-- the file of the group at the path, in the tree that was seen, is r: a text, or why there is none
pub record IsFileOf (v : View) (p : Path) (f : FileName) (r : Result (List ℕ) Refusal) : Type 0 where
  pub began : Tree
  pub from : v.opening ≡ began ∷ []
  pub text : file (tree_after began v.seen) p f ≡ r

-- a read of the file is refused with e: but for Memory and Full, since the tree that was seen has no such file
pub record IsRefusalOf (v : View) (p : Path) (f : FileName) (e : Refusal) : Type 0 where
  pub why : e ≢ Memory → e ≢ Full → IsFileOf v p f (Err e)
