-- The holder is in the way, where a mark of its own clashes.
use Rattle.std.proofs.Common.{◌<◌, ◌∙◌, sym, subst}
use Rattle.cg_locks.specs.Meaning.{mark_of}
use Rattle.cg_locks.specs.Sole.{sole_times}
use Rattle.cg_locks.proofs.Soles.{no_count, none_clashing, none_in_way, one_in_way, told_sole}
use Rattle.cg_locks.proofs.sole_marks.SoleMarks.least_clashing.Goals as goal
use Rattle.cg_locks.proofs.sole_marks.SoleMarks.least_clashing.Goals.{then-self-transaction-via-then-self-transaction, then-self-transaction-via-else-self-transaction+then-not-is_any_clashing}

pub returns-then-self-transaction : goal.returns-then-self-transaction
returns-then-self-transaction c =
    let h = c.self.inside.holder in
    let es = c.self.inside.marks.items in
    let H = c.args.self.now in
    let t = c.args.transaction.0 in
    elim c.then-self-transaction.branch [
      | then-self-transaction-via-then-self-transaction w ↦
          none_in_way h t es H c.self.view_is (mark_of c.args.mark.now) (λ u m apart. told_sole h es H c.self.view_is u m ∙ no_count h u es m (λ same. apart (same ∙ w.if-self-transaction.true)))
      | then-self-transaction-via-else-self-transaction+then-not-is_any_clashing w ↦
          none_clashing h t es H c.self.view_is (mark_of c.args.mark.now) (λ m low. w.is_any_clashing.ensures.none w.if-not-is_any_clashing.true m (subst (λ l. 0 < sole_times m l) (sym w.deref.ensures.value) low))
    ]

pub returns : goal.returns
returns c =
    let found = c.is_any_clashing.ensures.some c.if-not-is_any_clashing.false in
    one_in_way c.self.inside.holder c.args.transaction.0 c.self.inside.marks.items c.args.self.now c.self.view_is (mark_of c.args.mark.now) c.if-self-transaction.false found.0
    (subst (λ l. 0 < sole_times found.0 l) c.deref.ensures.value found.1) found.2
