-- How the lines of a world text are taken one after another.
use Rattle.std.specs.Prelude.{◌≡◌, ℕ, cond, List, [], ◌∷◌, ◌++◌, map, Option, Some, None, is_some}
use Rattle.cg_name.specs.Path.{Path}
use Rattle.cg_text.specs.Words.{Line, Word, SayAll}
use Rattle.cg_text.specs.declared.settings.Settings.{Settings}
use Rattle.cg_model.specs.Tree.{Tree, group, place_of}
use Rattle.cg_world.specs.Making.{bare_tree, with_group, with_process}
use Rattle.cg_world_text.specs.declared.stage.Stage.{Stage}
use Rattle.cg_world_text.specs.declared.stage.Stage.TheVariants.{Begun, Versioned, Controlled, Groups, Processes, Ended}
use Rattle.cg_world_text.specs.declared.statement.Statement.{Statement}
use Rattle.cg_world_text.specs.declared.statement.Statement.TheVariants.{Version, Controllers, Online, Group, Process, End}
use Rattle.cg_world_text.specs.declared.version.Version as versions
use Rattle.cg_world_text.specs.declared.version.Version.TheVariants.{One}
use Rattle.cg_world.specs.Representable.{IsPid}
use Rattle.cg_world_text.specs.World.{Lists, group_of, process_of, Arranges, SpellsEach}

-- the stage behind one line more, none where the line can't stand there
abbrev pub taken : Stage → Statement → Option Stage
taken Begun (Version v) = Some (Versioned v)
taken (Versioned v) (Controllers cs) = Some (Controlled v cs)
taken (Controlled v cs) (Online online) = Some (Groups v (bare_tree cs online))
taken (Groups v T) (Group p s) = cond (is_some (group T p)) None (Some (Groups v (with_group T p s)))
taken (Groups v T) (Process k p) = cond (is_some (place_of T k)) None (Some (Processes v (with_process T k p)))
taken (Groups v T) End = Some (Ended v T)
taken (Processes v T) (Process k p) = cond (is_some (place_of T k)) None (Some (Processes v (with_process T k p)))
taken (Processes v T) End = Some (Ended v T)
taken _ _ = None

-- the stage behind the groups, where a line of a process is taken as where the groups are
abbrev pub behind_groups : Stage → Stage
behind_groups (Groups v T) = Processes v T
behind_groups stage = stage

-- a line of a process has a PID
abbrev pub HasPid : Statement → Type 0
HasPid (Process k p) = IsPid k
HasPid _ = Unit {0}

-- the version by which the next line is read: either will do for a line that names it
abbrev pub version_at : Stage → versions.Version
version_at Begun = One
version_at (Versioned v) = v
version_at (Controlled v cs) = v
version_at (Groups v T) = v
version_at (Processes v T) = v
version_at (Ended v T) = v

-- from a stage on, the lines of a text of the version make it the tree
abbrev pub Finishes : Stage → versions.Version → List Statement → Tree → Type 0
Finishes Begun v ss U = Arranges v ss U
Finishes (Versioned n) v ss U = Arranges v (Version n ∷ ss) U
Finishes (Controlled n cs) v ss U = Arranges v (Version n ∷ Controllers cs ∷ ss) U
Finishes (Groups n T) v ss U =
    (groups : List (Path × Settings)) × (processes : List (ℕ × Path)) × (ss ≡ map group_of groups ++ map process_of processes ++ End ∷ [])
    × (U.controllers ≡ T.controllers) × (U.online ≡ T.online) × Lists T.groups groups U.groups × Lists T.places processes U.places × (v ≡ n)
Finishes (Processes n T) v ss U =
    (processes : List (ℕ × Path)) × (ss ≡ map process_of processes ++ End ∷ [])
    × (U.controllers ≡ T.controllers) × (U.online ≡ T.online) × (U.groups ≡ T.groups) × Lists T.places processes U.places × (v ≡ n)
Finishes (Ended n T) v ss U = (ss ≡ []) × (U ≡ T) × (v ≡ n)

-- from a stage on, good lines that are left make it the tree
pub record Leads (stage : Stage) (lines : List Line) (T : Tree) : Type 0 where
  pub said : List (List Word)
  pub lines_say : SayAll lines said
  pub version : versions.Version
  pub statements : List Statement
  pub spelled : SpellsEach version said statements
  pub finished : Finishes stage version statements T
