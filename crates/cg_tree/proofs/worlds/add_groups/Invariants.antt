use Rattle.std.proofs.Common.{◌≡◌}
use Rattle.cg_maps.specs.FiniteMap.{empty, entries}
use Rattle.cg_world.proofs.Puts.{puts}
use Rattle.cg_world.proofs.Trees.{with_groups}
use Rattle.cg_tree.specs.Present.{present}
use Rattle.cg_tree.proofs.worlds.add_groups.Given as goal

-- the groups so far and those that are left are all of them
abbrev pub invariant-loop-path : goal.invariant-loop-path
invariant-loop-path l = with_groups l.tree (puts l.tree.groups l.path-iterator) ≡ with_groups l.fn.tree (puts empty (entries (present l.groups.groups)))
