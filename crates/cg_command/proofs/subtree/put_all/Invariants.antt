-- The changes that are left lead to the tree after all of them.
use Rattle.std.proofs.Common.{◌≡◌, length, map}
use Rattle.cg_inverse.specs.Meaning.{change_of}
use Rattle.cg_model.specs.Change.{done}
use Rattle.cg_command.specs.Subtree.{LeaveNoCpus, NeedNoEntry}
use Rattle.cg_command.proofs.subtree.put_all.Given as goal

abbrev pub invariant-loop-change : goal.invariant-loop-change
invariant-loop-change l = record {
  tree : done (map change_of l.rest) l.tree.tree ≡ done (map change_of l.fn.changes) l.fn.tree.tree;
  entries : l.tree.entries ≡ l.fn.tree.entries;
  no_entry : NeedNoEntry (map change_of l.rest);
  no_cpus : LeaveNoCpus (map change_of l.rest);
}

abbrev pub decreases-loop-change : goal.decreases-loop-change
decreases-loop-change l = length l.rest
