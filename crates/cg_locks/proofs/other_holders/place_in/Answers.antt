-- The spot is where the entries that are left begin, and the number beside it the first one's.
use Rattle.std.proofs.Common.{◌+◌, drop, get_or, sym, ◌∙◌, arith}
use Rattle.std.proofs.lemmas.List.{drop_all, drop_more}
use Rattle.cg_locks.specs.declared.held.Part.TheVariants.{ChangedAt}
use Rattle.cg_locks.proofs.Others.{any_passed, entry, last_spot, never_there, not_there, other_passed, sought_yet, spot_here, there}
use Rattle.cg_locks.proofs.other_holders.place_in.Goals as goal

pub loop-index-init : goal.loop-index-init
loop-index-init c = sought_yet c.args.part c.args.transaction c.args.others.now c.requires

pub loop-index-preserved-then-other-transaction : goal.loop-index-preserved-then-other-transaction
loop-index-preserved-then-other-transaction c =
    let es = c.args.others.now in
    let i = c.loop-index.index in
    any_passed c.args.part c.args.transaction es i (drop i es) c.loop-index.invariant (get_or es i (entry ChangedAt 0 0)) (drop (i + 1) es) (drop_more es i (entry ChangedAt 0 0) c.loop-index-test.true) c.if-other-transaction.true

pub loop-index-preserved : goal.loop-index-preserved
loop-index-preserved c =
    let es = c.args.others.now in
    let i = c.loop-index.index in
    other_passed c.args.part c.args.transaction es i (drop i es) c.loop-index.invariant (get_or es i (entry ChangedAt 0 0)) (drop (i + 1) es) (drop_more es i (entry ChangedAt 0 0) c.loop-index-test.true) (sym c.is.ensures ∙ c.if-not-is.true)

pub returns-then-other-transaction-2-clause-place : goal.returns-then-other-transaction-2-clause-place
returns-then-other-transaction-2-clause-place c =
    let es = c.args.others.now in
    let i = c.loop-index.index in
    spot_here c.args.part c.args.transaction es i (drop i es) c.loop-index.invariant (get_or es i (entry ChangedAt 0 0)) (drop (i + 1) es) (drop_more es i (entry ChangedAt 0 0) c.loop-index-test.true) (sym c.is.ensures ∙ c.if-not-is.false) (omega (arith, c.if-other-transaction.false))

pub returns-then-other-transaction-2-clause-count : goal.returns-then-other-transaction-2-clause-count
returns-then-other-transaction-2-clause-count c =
    let es = c.args.others.now in
    let i = c.loop-index.index in
    there c.args.part c.args.transaction es i (drop i es) c.loop-index.invariant (get_or es i (entry ChangedAt 0 0)) (drop (i + 1) es) (drop_more es i (entry ChangedAt 0 0) c.loop-index-test.true) (sym c.is.ensures ∙ c.if-not-is.false) c.if-other-transaction-2.true

pub returns-in-loop-index-clause-place : goal.returns-in-loop-index-clause-place
returns-in-loop-index-clause-place c =
    let es = c.args.others.now in
    let i = c.loop-index.index in
    spot_here c.args.part c.args.transaction es i (drop i es) c.loop-index.invariant (get_or es i (entry ChangedAt 0 0)) (drop (i + 1) es) (drop_more es i (entry ChangedAt 0 0) c.loop-index-test.true) (sym c.is.ensures ∙ c.if-not-is.false) (omega (arith, c.if-other-transaction.false))

pub returns-in-loop-index-clause-count : goal.returns-in-loop-index-clause-count
returns-in-loop-index-clause-count c =
    let es = c.args.others.now in
    let i = c.loop-index.index in
    not_there c.args.part c.args.transaction es i (drop i es) c.loop-index.invariant (get_or es i (entry ChangedAt 0 0)) (drop (i + 1) es) (drop_more es i (entry ChangedAt 0 0) c.loop-index-test.true) (sym c.is.ensures ∙ c.if-not-is.false)
    (omega (arith, c.if-other-transaction.false, c.if-other-transaction-2.false))

pub returns-clause-place : goal.returns-clause-place
returns-clause-place c =
    let es = c.args.others.now in
    let i = c.loop-index.index in
    let at = last_spot c.args.part c.args.transaction es i (drop i es) c.loop-index.invariant (drop_all i es c.loop-index-test.false) in
    omega (arith, at, c.loop-index-test.false, c.loop-index.auto.index-end)

pub returns-clause-count : goal.returns-clause-count
returns-clause-count c =
    let es = c.args.others.now in
    let i = c.loop-index.index in
    never_there c.args.part c.args.transaction es i (drop i es) c.loop-index.invariant (drop_all i es c.loop-index-test.false)
