-- The tree of control groups as a system of commands.
use Rattle.std.specs.Prelude.{List}
use Rattle.cg_model.specs.System.{System}
use Rattle.cg_model.specs.Tree.{Tree}
use Rattle.cg_model.specs.Sound.{Sound}
use Rattle.cg_model.specs.Change.{Change, done, undone, Fits}
use Rattle.cg_model.specs.Command.{Command, IsProper}
use Rattle.cg_model.specs.Effect.{effect}
use Rattle.cg_model.specs.Footprint.{Mark, clashes, footprint}

-- its commands with their footprints, going back by lists of changes, and what is kept
abbrev pub cgroups : System
cgroups = record {
  State = Tree;
  Command = Command;
  Change = List Change;
  Footprint = List Mark;
  effect = effect;
  footprint = footprint;
  clashes = clashes;
  done = done;
  undone = undone;
  Fits = Fits;
  Sound = Sound;
  Proper = IsProper;
}
