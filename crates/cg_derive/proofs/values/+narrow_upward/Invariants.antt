use Rattle.std.proofs.Common.{length}
use Rattle.cg_derive.proofs.values.+narrow_upward.Given as goal

abbrev pub decreases-narrow_upward : goal.decreases-narrow_upward
decreases-narrow_upward l = length l.groups
