use Rattle.std.proofs.Common.{rules}
use Rattle.cg_explain.proofs.below.append_children.Goals as goal

pub loop-child-preserved : goal.loop-child-preserved
loop-child-preserved c = let e = c.in_ok-left.ensures c.next.new.self in search rules
