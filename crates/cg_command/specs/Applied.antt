-- What an accepted command leaves.
use Rattle.std.specs.Prelude.{◌≡◌, List, Some, Result, IfOk, OnErr}
use Rattle.cg_maps.specs.FiniteMap.{FiniteMap}
use Rattle.cg_name.specs.Path.{path_cmp}
use Rattle.cg_command.specs.declared.command.Outcome as rust
use Rattle.cg_command.specs.declared.command.Outcome.TheVariants as outcomes
use Rattle.cg_model.specs.Change.{Change, done}
use Rattle.cg_model.specs.Command.{Command, Create}
use Rattle.cg_model.specs.Effect.{effect}
use Rattle.cg_model.specs.Room.{RoomFor}
use Rattle.cg_model.specs.System.{Outcome, Done, Text, Accept}
use Rattle.cg_tree.specs.Room.{TreeWithRoom, has_entry, with_entry}

abbrev pub outcome_of : rust.Outcome → Outcome
outcome_of outcomes.Done = Done
outcome_of (outcomes.Text text) = Text text

-- the entries after an accepted command: those before, and that of a group that it makes
abbrev pub entries_after : Command → FiniteMap path_cmp (Unit {0}) → FiniteMap path_cmp (Unit {0})
entries_after (Create p) E = with_entry (Some p) E
entries_after _ E = E

-- the tree u is what the command leaves of t: with this outcome and these changes, and room for undoing them
pub record Applied (c : Command) (t : TreeWithRoom) (o : Outcome) (cs : List Change) (u : TreeWithRoom) : Type 0 where
  pub effect : effect c t.tree ≡ Accept o cs
  pub tree : u.tree ≡ done cs t.tree
  pub room : RoomFor (has_entry u) cs
  pub entries : u.entries ≡ entries_after c t.entries

-- what carries the command out on t gives r, and leaves u: an error, where there is no memory, leaves t
pub record IsCarriedOut {E : Type 0} (c : Command) (t : TreeWithRoom) (r : Result (rust.Outcome × List Change) E) (u : TreeWithRoom) : Type 0 where
  pub ok : IfOk r (λ x. Applied c t (outcome_of x.0) x.1 u)
  pub err : OnErr r (u ≡ t)
