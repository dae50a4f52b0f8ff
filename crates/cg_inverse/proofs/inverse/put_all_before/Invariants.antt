-- The changes that are left, put back in the tree as it is, give the tree that all of them give.
use Rattle.std.proofs.Common.{◌≡◌, length, map}
use Rattle.cg_inverse.specs.Meaning.{change_of}
use Rattle.cg_model.specs.Change.{undone}
use Rattle.cg_model.specs.Room.{RoomFor}
use Rattle.cg_tree.specs.Room.{has_entry}
use Rattle.cg_inverse.proofs.inverse.put_all_before.Given as goal

abbrev pub invariant-loop-change : goal.invariant-loop-change
invariant-loop-change l = record {
  tree : undone (map change_of l.changes.items) l.tree.tree ≡ undone (map change_of l.fn.changes.items) l.fn.tree.tree;
  entries : l.tree.entries ≡ l.fn.tree.entries;
  room : RoomFor (has_entry l.tree) (map change_of l.changes.items);
}

abbrev pub decreases-loop-change : goal.decreases-loop-change
decreases-loop-change l = length l.changes.items
