use Rattle.std.proofs.Common.{sym, ap, ◌∙◌}
use Rattle.cg_locks.specs.Clashing.{first_clashing}
use Rattle.cg_locks.specs.Meaning.{counts_of}
use Rattle.cg_locks.proofs.FirstClash.{nothing_clashes}
use Rattle.cg_locks.proofs.clashing.first_counted.Goals as goal

pub returns-in_default-others : goal.returns-in_default-others
returns-in_default-others c = sym (ap (λ o. first_clashing (counts_of c.args.counted) (counts_of o)) c.in_default-others.is ∙ nothing_clashes (counts_of c.args.counted))
