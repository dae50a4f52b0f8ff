-- The place is where the entries that are left begin, and the number beside it the first one's.
use Rattle.std.proofs.Common.{◌+◌, drop, get_or, refl, arith}
use Rattle.std.proofs.lemmas.List.{drop_all, drop_more}
use Rattle.cg_locks.proofs.Places.{found_here, last_place, never_found, not_found, one_passed, place_here}
use Rattle.cg_locks.proofs.holders.place_in.Goals as goal

pub loop-index-init : goal.loop-index-init
loop-index-init c = record {
  sorted = c.requires;
  same = refl;
  place = omega arith;
}

pub loop-index-preserved : goal.loop-index-preserved
loop-index-preserved c =
    let es = c.args.entries.now in
    let i = c.loop-index.index in
    one_passed c.args.transaction es i (drop i es) c.loop-index.invariant (get_or es i (0, 0)) (drop (i + 1) es) (drop_more es i (0, 0) c.loop-index-test.true) (omega (arith, c.if-holder-transaction.false, c.if-holder-transaction-2.false))

pub returns-then-holder-transaction-clause-place : goal.returns-then-holder-transaction-clause-place
returns-then-holder-transaction-clause-place c =
    let es = c.args.entries.now in
    let i = c.loop-index.index in
    place_here c.args.transaction es i (drop i es) c.loop-index.invariant (get_or es i (0, 0)) (drop (i + 1) es) (drop_more es i (0, 0) c.loop-index-test.true) (omega (arith, c.if-holder-transaction.true))

pub returns-then-holder-transaction-clause-count : goal.returns-then-holder-transaction-clause-count
returns-then-holder-transaction-clause-count c =
    let es = c.args.entries.now in
    let i = c.loop-index.index in
    found_here c.args.transaction es i (drop i es) c.loop-index.invariant (get_or es i (0, 0)) (drop (i + 1) es) (drop_more es i (0, 0) c.loop-index-test.true) c.if-holder-transaction.true

pub returns-then-holder-transaction-2-clause-place : goal.returns-then-holder-transaction-2-clause-place
returns-then-holder-transaction-2-clause-place c =
    let es = c.args.entries.now in
    let i = c.loop-index.index in
    place_here c.args.transaction es i (drop i es) c.loop-index.invariant (get_or es i (0, 0)) (drop (i + 1) es) (drop_more es i (0, 0) c.loop-index-test.true) (omega (arith, c.if-holder-transaction-2.true))

pub returns-then-holder-transaction-2-clause-count : goal.returns-then-holder-transaction-2-clause-count
returns-then-holder-transaction-2-clause-count c =
    let es = c.args.entries.now in
    let i = c.loop-index.index in
    not_found c.args.transaction es i (drop i es) c.loop-index.invariant (get_or es i (0, 0)) (drop (i + 1) es) (drop_more es i (0, 0) c.loop-index-test.true) (omega (arith, c.if-holder-transaction-2.true))

pub returns-clause-place : goal.returns-clause-place
returns-clause-place c =
    let es = c.args.entries.now in
    let i = c.loop-index.index in
    let at = last_place c.args.transaction es i (drop i es) c.loop-index.invariant (drop_all i es c.loop-index-test.false) in
    omega (arith, at, c.loop-index-test.false, c.loop-index.auto.index-end)

pub returns-clause-count : goal.returns-clause-count
returns-clause-count c =
    let es = c.args.entries.now in
    let i = c.loop-index.index in
    never_found c.args.transaction es i (drop i es) c.loop-index.invariant (drop_all i es c.loop-index-test.false)
