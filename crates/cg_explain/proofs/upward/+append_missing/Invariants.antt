use Rattle.std.proofs.Common.{length}
use Rattle.cg_explain.proofs.upward.+append_missing.Given as goal

abbrev pub decreases-append_missing : goal.decreases-append_missing
decreases-append_missing l = length l.way
