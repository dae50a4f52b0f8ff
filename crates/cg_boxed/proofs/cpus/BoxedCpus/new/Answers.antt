-- A set with a number from 64 on isn't empty.
use Rattle.std.proofs.Common.{sym, ◌∙◌, true≢false}
use Rattle.cg_boxed.proofs.Kept.{not_empty}
use Rattle.cg_boxed.proofs.cpus.BoxedCpus.new.Goals as goal

pub returns-in_err-new-in-None-clause-empty : goal.returns-in_err-new-in-None-clause-empty
returns-in_err-new-in-None-clause-empty c = λ empty. absurd (true≢false (sym empty ∙ not_empty c.args.cpus c.in-None.ensures.none))
