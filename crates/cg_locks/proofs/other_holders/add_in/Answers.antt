-- A new entry at its spot, or another count there.
use Rattle.std.proofs.Common.{◌≡◌, length, unwrap_or, ap, ◌∙◌, arith}
use Rattle.std.specs.FinMap.Entries.{find}
use Rattle.std.specs.Ordering.{nat_cmp}
use Rattle.cg_locks.specs.FirstsAndOthers.{others_in, spot_of}
use Rattle.cg_locks.proofs.Others.{new_in_other, new_in_part, over_in_other, over_in_part, stands}
use Rattle.cg_locks.proofs.other_holders.add_in.Goals as goal
use Rattle.cg_locks.proofs.other_holders.add_in.Goals.{In-Some}

count : (c : In-Some) → c.place_to_add-place.result.1 ≡ unwrap_or (find nat_cmp c.args.transaction (others_in c.args.part c.args.others.now.items)) 0
count c = c.place_to_add-place.ensures.count ∙ ap (λ xs. unwrap_or (find nat_cmp c.args.transaction (others_in c.args.part xs)) 0) c.deref.ensures.value

spot : (c : In-Some) → c.place_to_add-place.result.0 ≡ spot_of c.args.part c.args.transaction c.args.others.now.items
spot c = c.place_to_add-place.ensures.place ∙ ap (spot_of c.args.part c.args.transaction) c.deref.ensures.value

pub index_mut-requires : goal.index_mut-requires
index_mut-requires c =
    let s = (goal.at.index_mut-requires c).In-Some in
    let many = count s in
    let low = stands c.args.part c.args.transaction c.args.others.now.items c.place_to_add-place.result.0 (spot s) c.requires.sorted (omega (arith, c.if-more-gt1.true, c.in-Some.ensures, many)) in
    let same = ap length c.deref.ensures.value in
    omega (arith, low, same, c.deref.ensures.len)

pub returns-then-more-gt1-clause-ok : goal.returns-then-more-gt1-clause-ok
returns-then-more-gt1-clause-ok c =
    let s = (goal.at.returns-then-more-gt1-clause-ok c).In-Some in
    let many = count s in
    over_in_part c.args.part c.args.transaction c.args.others.now.items c.place_to_add-place.result.0 (spot s) c.requires.sorted (omega (arith, c.if-more-gt1.true, c.in-Some.ensures, many)) c.in-Some.more

pub returns-then-more-gt1-clause-apart : goal.returns-then-more-gt1-clause-apart
returns-then-more-gt1-clause-apart c = λ r ne.
    over_in_other c.args.part c.args.transaction c.args.others.now.items c.place_to_add-place.result.0 (spot (goal.at.returns-then-more-gt1-clause-apart c).In-Some) r ne c.in-Some.more

pub returns-in_ok-insert-clause-ok : goal.returns-in_ok-insert-clause-ok
returns-in_ok-insert-clause-ok c =
    let s = (goal.at.returns-in_ok-insert-clause-ok c).In-Some in
    let many = count s in
    ap (others_in c.args.part) c.in_ok-insert.ensures.items
    ∙ new_in_part c.args.part c.args.transaction c.args.others.now.items c.place_to_add-place.result.0 (spot s) c.in-Some.more c.requires.positive (omega (arith, c.if-more-gt1.false, c.in-Some.ensures, many))

pub returns-in_ok-insert-clause-apart : goal.returns-in_ok-insert-clause-apart
returns-in_ok-insert-clause-apart c = λ r ne.
    ap (others_in r) c.in_ok-insert.ensures.items ∙ new_in_other r c.args.part ne c.args.others.now.items c.place_to_add-place.result.0 c.args.transaction c.in-Some.more
