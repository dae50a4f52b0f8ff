use Rattle.std.proofs.Common.{slice_get, ap, sym, ◌∙◌, arith}
use Rattle.cg_locks.proofs.Firsts.{split}
use Rattle.cg_locks.proofs.holders.take_first.Goals as goal

pub returns-clause-all : goal.returns-clause-all
returns-clause-all c =
    (split c.args.entries.now.items c.in-Some.first c.remove.new.self.items c.requires (ap (λ es. slice_get es 0) (sym c.deref.ensures.value) ∙ sym c.first.ensures.value ∙ sym c.copied.ensures ∙ c.in-Some.is) c.remove.ensures.items).1

pub returns-clause-alone : goal.returns-clause-alone
returns-clause-alone c = λ none.
    let low = (split c.args.entries.now.items c.in-Some.first c.remove.new.self.items c.requires (ap (λ es. slice_get es 0) (sym c.deref.ensures.value) ∙ sym c.first.ensures.value ∙ sym c.copied.ensures ∙ c.in-Some.is) c.remove.ensures.items).0 in
    absurd (omega (arith, low, none))
