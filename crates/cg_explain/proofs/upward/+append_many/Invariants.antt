use Rattle.std.proofs.Common.{length}
use Rattle.cg_explain.proofs.upward.+append_many.Given as goal

abbrev pub decreases-append_many : goal.decreases-append_many
decreases-append_many l = length l.way
