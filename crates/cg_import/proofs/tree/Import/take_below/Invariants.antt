use Rattle.std.proofs.Common.{◌≡◌, []}
use Rattle.cg_import.proofs.tree.Import.take_below.Given as goal

-- the tree stays, and what was told
abbrev pub invariant-loop-name : goal.invariant-loop-name
invariant-loop-name g l = record {
  tree : l.self.tree ≡ l.fn.self.tree;
  kept : l.self.left_out.lines.items ≡ [] → l.fn.self.left_out.lines.items ≡ [];
}
