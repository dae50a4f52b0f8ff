-- The nodes so far are there and hold nothing, and the next ones are still missing.
use Rattle.cg_locks.proofs.Missing.{IsMade}
use Rattle.cg_locks.proofs.upward.make_above.Given as goal

abbrev pub invariant-loop-depth : goal.invariant-loop-depth
invariant-loop-depth l = IsMade l.fn.nodes.values l.path l.depth l.parent l.nodes.values l.nodes.keys
