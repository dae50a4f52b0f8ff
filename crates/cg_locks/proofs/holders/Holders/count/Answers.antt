use Rattle.std.proofs.Common.{unwrap_or, ap, ◌∙◌}
use Rattle.std.specs.FinMap.Entries.{find}
use Rattle.std.specs.Ordering.{nat_cmp}
use Rattle.cg_locks.proofs.Firsts.{count_first, count_other}
use Rattle.cg_locks.proofs.holders.Holders.count.Goals as goal

pub returns-then-self-transaction : goal.returns-then-self-transaction
returns-then-self-transaction c =
    count_first c.self.inside.first c.self.inside.times c.self.inside.others.items c.self.invariant c.args.self.now c.self.view_is c.args.transaction.0 c.if-self-transaction.true

pub returns : goal.returns
returns c =
    c.count_in.ensures ∙ ap (λ es. unwrap_or (find nat_cmp c.args.transaction.0 es) 0) c.deref.ensures.value
    ∙ count_other c.self.inside.first c.self.inside.times c.self.inside.others.items c.self.invariant c.args.self.now c.self.view_is c.args.transaction.0 c.if-self-transaction.false
