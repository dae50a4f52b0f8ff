use Rattle.std.proofs.Common.{length}
use Rattle.cg_world_text.specs.World.{world_text}
use Rattle.cg_world_text.proofs.ToCome.{IsTaken}
use Rattle.cg_world_text.proofs.tree_writing.append_tree.Given as goal

abbrev pub invariant-lines : goal.invariant-lines
invariant-lines l = IsTaken l.fn.out.items (world_text l.tree.tree) l.out.items l.lines

abbrev pub decreases-lines : goal.decreases-lines
decreases-lines l = length l.lines
