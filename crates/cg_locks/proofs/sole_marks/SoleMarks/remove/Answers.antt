-- The marks are the holder's, and what isn't held any more says nothing.
use Rattle.std.proofs.Common.{◌+◌, refl, sym, subst, ◌∙◌, ap}
use Rattle.cg_locks.specs.Meaning.{mark_of}
use Rattle.cg_locks.specs.Sole.{AreFound}
use Rattle.cg_locks.specs.Single.{once}
use Rattle.cg_locks.proofs.Soles.{more_sole, no_count, own_count, told_sole}
use Rattle.cg_locks.proofs.sole_marks.SoleMarks.remove.Goals as goal

pub returns-then-self-transaction-clause-none : goal.returns-then-self-transaction-clause-none
returns-then-self-transaction-clause-none c = λ _.
    told_sole c.self.inside.holder c.self.inside.marks.items c.args.self.now c.self.view_is c.args.transaction.0 (mark_of c.args.mark.now)
    ∙ no_count c.self.inside.holder c.args.transaction.0 c.self.inside.marks.items (mark_of c.args.mark.now) (λ same. c.if-self-transaction.true (sym same))

pub take_one-requires : goal.take_one-requires
take_one-requires c = subst (λ slots. AreFound c.self.inside.marks.items slots) (sym c.deref.ensures.value) c.self.invariant

pub invariant_of-self : goal.invariant_of-self
invariant_of-self c = subst (λ slots. AreFound c.take_one.new.marks.items slots) c.deref.ensures.value c.take_one.ensures.found

pub returns-then-not-take_one-clause-none : goal.returns-then-not-take_one-clause-none
returns-then-not-take_one-clause-none c = λ _.
    told_sole c.self.inside.holder c.self.inside.marks.items c.args.self.now c.self.view_is c.args.transaction.0 (mark_of c.args.mark.now)
    ∙ own_count c.self.inside.holder c.args.transaction.0 c.self.inside.marks.items (mark_of c.args.mark.now) c.if-self-transaction.false
    ∙ c.take_one.ensures.none c.if-not-take_one.true

pub invariant_of-self-2 : goal.invariant_of-self-2
invariant_of-self-2 c = c.drop_unheld.ensures.found c.self.inside.slots.items (subst (λ slots. AreFound c.take_one.new.marks.items slots) c.deref.ensures.value c.take_one.ensures.found)

pub returns-clause-gone : goal.returns-clause-gone
returns-clause-gone c = λ _.
    more_sole c.self.inside.holder c.args.transaction.0 c.drop_unheld.new.marks.items c.self.inside.marks.items (mark_of c.args.mark.now) _ c.args.self.now c.if-self-transaction.false refl c.self.view_is
    (λ n. c.take_one.ensures.gone c.if-not-take_one.false n ∙ ap (λ k. k + once n (mark_of c.args.mark.now)) (sym (c.drop_unheld.ensures.same n)))
