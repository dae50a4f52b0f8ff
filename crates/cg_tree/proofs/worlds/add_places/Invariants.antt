use Rattle.std.proofs.Common.{◌≡◌, Some}
use Rattle.std.specs.List.{AllByRecursion}
use Rattle.cg_maps.specs.FiniteMap.{get}
use Rattle.cg_world.proofs.Trees.{with_places}
use Rattle.cg_world.proofs.Puts.{puts}
use Rattle.cg_tree.proofs.worlds.add_places.Given as goal

-- the processes so far and those that are left are all of them, and each that is left is there
abbrev pub invariant-loop-pid : goal.invariant-loop-pid
invariant-loop-pid l = record {
  places : with_places l.tree (puts l.tree.places l.pid-iterator) ≡ with_places l.fn.tree l.from.tree.places;
  there : AllByRecursion (λ e. get l.from.tree.places e.0 ≡ Some e.1) l.pid-iterator;
}
