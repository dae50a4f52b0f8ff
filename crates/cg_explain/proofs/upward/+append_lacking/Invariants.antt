use Rattle.std.proofs.Common.{length}
use Rattle.cg_explain.proofs.upward.+append_lacking.Given as goal

abbrev pub decreases-append_lacking : goal.decreases-append_lacking
decreases-append_lacking l = length l.way
