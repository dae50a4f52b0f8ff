use Rattle.std.proofs.Common.{sym, subst}
use Rattle.cg_locks.specs.Sole.{AreFound}
use Rattle.cg_locks.proofs.Soles.{found_taken}
use Rattle.cg_locks.proofs.sole_marks.drop_unheld.Goals as goal

pub returns-clause-found : goal.returns-clause-found
returns-clause-found c = λ slots found. subst (λ es. AreFound es slots) (sym c.truncate.ensures.items) (found_taken c.args.marks.now.items c.held_len-len.result slots found)
