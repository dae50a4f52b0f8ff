-- What was added, and what the children that are left add, is all.
use Rattle.std.proofs.Common.{◌≡◌, ◌++◌, filter}
use Rattle.cg_model.specs.Derived.{children}
use Rattle.cg_tree.specs.Listing.{asks_for_cpus}
use Rattle.cg_command.proofs.Emptying.{each_emptied}
use Rattle.cg_command.proofs.subtree.add_emptied.Given as goal

abbrev pub invariant-loop-child : goal.invariant-loop-child
invariant-loop-child l = l.inverse ++ each_emptied l.children ≡ l.fn.inverse ++ each_emptied (filter asks_for_cpus (children l.tree.tree l.path))
