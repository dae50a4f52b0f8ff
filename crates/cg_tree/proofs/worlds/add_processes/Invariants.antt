use Rattle.std.proofs.Common.{◌≡◌, None}
use Rattle.std.specs.List.{AllByRecursion}
use Rattle.cg_maps.specs.FiniteMap.{empty, get}
use Rattle.cg_maps.specs.Laws.{EachKeyOnce}
use Rattle.cg_world.proofs.Puts.{puts}
use Rattle.cg_tree.proofs.Listing.{AreIn}
use Rattle.cg_tree.proofs.worlds.add_processes.Given as goal

-- the processes so far and those that are left are all of them, and each that is left is there, and new
abbrev pub invariant-loop-pid : goal.invariant-loop-pid
invariant-loop-pid l = record {
  groups : l.groups.groups ≡ l.fn.groups.groups;
  places : puts l.groups.places l.pid-iterator ≡ puts empty l.places.entries;
  there : AreIn l.places l.pid-iterator;
  new : AllByRecursion (λ e. get l.groups.places e.0 ≡ None) l.pid-iterator;
  once : EachKeyOnce l.pid-iterator;
}
