-- The holder's marks are nobody else's, and where there are none nobody holds any.
use Rattle.std.proofs.Common.{◌==◌, ap, ◌∙◌}
use Rattle.cg_locks.proofs.Soles.{no_count, none_there, told_sole}
use Rattle.cg_locks.proofs.sole_marks.SoleMarks.is_of_another.Goals as goal

pub returns-then-self-transaction : goal.returns-then-self-transaction
returns-then-self-transaction c = record {
  own = λ some u m _. told_sole c.self.inside.holder c.self.inside.marks.items c.args.self.now c.self.view_is u m ∙ none_there c.self.inside.holder c.self.inside.marks.items c.is_empty.result u m some (c.is_empty.ensures ∙ ap (λ n. n == 0) c.self.inside.marks.ok.0);
}

pub returns-else-self-transaction : goal.returns-else-self-transaction
returns-else-self-transaction c = record {
  own = λ _ u m apart.
      told_sole c.self.inside.holder c.self.inside.marks.items c.args.self.now c.self.view_is u m ∙ no_count c.self.inside.holder u c.self.inside.marks.items m (λ same. apart (same ∙ c.if-self-transaction.false));
}
