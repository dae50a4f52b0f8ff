use Rattle.std.proofs.Common.{sym, ◌∙◌}
use Rattle.cg_boxed.proofs.Limits.{max_kept, number_kept_is}
use Rattle.cg_boxed.proofs.limit.KeptLimit.new.Goals as goal

pub returns-in-Max : goal.returns-in-Max
returns-in-Max c = max_kept ∙ sym c.in-Max.is

pub returns-in-UpTo : goal.returns-in-UpTo
returns-in-UpTo c = number_kept_is c.in-UpTo.most ∙ sym c.in-UpTo.is
