-- The first is the least, and the first of the others where it is the transaction itself.
use Rattle.std.proofs.Common.{slice_get, ap, sym, ◌∙◌}
use Rattle.std.specs.Option.{option_copied}
use Rattle.cg_locks.proofs.Firsts.{first_is_least, nobody_else, none_second, second_is_least}
use Rattle.cg_locks.proofs.holders.Holders.least_other.Goals as goal

pub returns-then-self-eq0 : goal.returns-then-self-eq0
returns-then-self-eq0 c = nobody_else c.self.inside.first c.self.inside.times c.self.inside.others.items c.self.invariant c.args.self.now c.self.view_is c.args.transaction.0 c.if-self-eq0.true

pub returns-then-self-transaction : goal.returns-then-self-transaction
returns-then-self-transaction c =
    first_is_least c.self.inside.first c.self.inside.times c.self.inside.others.items c.self.invariant c.args.self.now c.self.view_is c.args.transaction.0 c.if-self-eq0.false c.if-self-transaction.true

pub returns-in-Some : goal.returns-in-Some
returns-in-Some c =
    second_is_least c.self.inside.first c.self.inside.times c.self.inside.others.items c.self.invariant c.args.self.now c.self.view_is c.args.transaction.0 c.if-self-eq0.false c.if-self-transaction.false c.in-Some.field-0.now
    (ap (λ es. slice_get es 0) (sym c.deref.ensures.value) ∙ sym c.first.ensures.value ∙ ap option_copied c.in-Some.is)

pub returns-in-None : goal.returns-in-None
returns-in-None c =
    none_second c.self.inside.first c.self.inside.times c.self.inside.others.items c.self.invariant c.args.self.now c.self.view_is c.args.transaction.0 c.if-self-eq0.false c.if-self-transaction.false
    (ap (λ es. slice_get es 0) (sym c.deref.ensures.value) ∙ sym c.first.ensures.value ∙ ap option_copied c.in-None.is)
