-- The last of the part has a lower number, and so have all before it; or none is of the part.
use Rattle.std.proofs.Common.{◌-◌, ◌<◌, nat_lt, IsTrue, get_or, length, sym, ◌∙◌, arith}
use Rattle.std.proofs.lemmas.Bool.Decides.{nat_tests}
use Rattle.cg_locks.specs.declared.held.Part.TheVariants.{ChangedAt}
use Rattle.cg_locks.proofs.Others.{entry, none_from, none_of_part, youngest_alone, youngest_behind, IsYoungest}
use Rattle.cg_locks.proofs.other_holders.is_youngest.Goals as goal
use Rattle.cg_locks.proofs.other_holders.is_youngest.Goals.{Then-is}

pub loop-i-init : goal.loop-i-init
loop-i-init c = λ k past low. absurd (omega (arith, past, low))

pub loop-i-preserved : goal.loop-i-preserved
loop-i-preserved c = λ k past low. none_from c.args.part c.args.transaction c.args.others.now c.loop-i.i c.loop-i-test.true (sym c.is.ensures ∙ c.if-is.false) c.loop-i.invariant k past low

youngest : (c : Then-is) → IsTrue (nat_lt (get_or c.args.others.now (c.loop-i.i - 1) (entry ChangedAt 0 0)).holder c.args.transaction) → IsYoungest c.args.part c.args.transaction c.args.others.now
youngest c low =
    let es = c.args.others.now in
    let before : c.loop-i.i - 1 < length es = omega arith in
    let less : (get_or es (c.loop-i.i - 1) (entry ChangedAt 0 0)).holder < c.args.transaction = grind (arith, nat_tests, low) in
    youngest_behind c.args.part c.args.transaction es (c.loop-i.i - 1) c.requires before (sym c.is.ensures ∙ c.if-is.true) less (λ k behind within. c.loop-i.invariant k (omega (arith, behind)) within)

pub returns-then-is-clause-place : goal.returns-then-is-clause-place
returns-then-is-clause-place c = λ low. (youngest c low).spot

pub returns-then-is-clause-count : goal.returns-then-is-clause-count
returns-then-is-clause-count c = λ low. (youngest c low).none

pub returns-clause-place : goal.returns-clause-place
returns-clause-place c = λ _. (youngest_alone c.args.part c.args.transaction c.args.others.now (none_of_part c.args.part c.args.transaction c.args.others.now (λ k low. c.loop-i.invariant k (omega (arith, c.loop-i-test.false)) low))).spot

pub returns-clause-count : goal.returns-clause-count
returns-clause-count c = λ _. (youngest_alone c.args.part c.args.transaction c.args.others.now (none_of_part c.args.part c.args.transaction c.args.others.now (λ k low. c.loop-i.invariant k (omega (arith, c.loop-i-test.false)) low))).none
