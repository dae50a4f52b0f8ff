use Rattle.std.proofs.Common.{length}
use Rattle.cg_explain.proofs.upward.+append_deep.Given as goal

abbrev pub decreases-append_deep : goal.decreases-append_deep
decreases-append_deep l = length l.way
