-- Another count at the entry's spot, or none.
use Rattle.std.proofs.Common.{◌≡◌, ◌-◌, length, ap, ◌∙◌, arith}
use Rattle.cg_locks.specs.FirstsAndOthers.{others_in, spot_of}
use Rattle.cg_locks.proofs.Others.{out_of_other, out_of_part, over_in_other, over_in_part, stands}
use Rattle.cg_locks.proofs.other_holders.remove_in.Goals as goal
use Rattle.cg_locks.proofs.other_holders.remove_in.Goals.{After-place_in-place}

spot : (c : After-place_in-place) → c.place_in-place.result.0 ≡ spot_of c.args.part c.args.transaction c.args.others.now.items
spot c = c.place_in-place.ensures.place ∙ ap (spot_of c.args.part c.args.transaction) c.deref.ensures.value

pub index_mut-requires : goal.index_mut-requires
index_mut-requires c =
    let low = stands c.args.part c.args.transaction c.args.others.now.items c.place_in-place.result.0 (spot (goal.at.index_mut-requires c).After-place_in-place) c.requires.sorted c.requires.there in
    let same = ap length c.deref.ensures.value in
    omega (arith, low, same, c.deref.ensures.len)

pub remove-requires : goal.remove-requires
remove-requires c =
    let low = stands c.args.part c.args.transaction c.args.others.now.items c.place_in-place.result.0 (spot (goal.at.remove-requires c).After-place_in-place) c.requires.sorted c.requires.there in
    let same = ap length c.deref.ensures.value in
    omega (arith, low, same, c.deref.ensures.len)

pub returns-then-left-gt0-clause-less : goal.returns-then-left-gt0-clause-less
returns-then-left-gt0-clause-less c = λ _.
    over_in_part c.args.part c.args.transaction c.args.others.now.items c.place_in-place.result.0 (spot (goal.at.returns-then-left-gt0-clause-less c).After-place_in-place) c.requires.sorted c.requires.there (c.place_in-place.result.1 - 1)

pub returns-then-left-gt0-clause-apart : goal.returns-then-left-gt0-clause-apart
returns-then-left-gt0-clause-apart c = λ r ne.
    over_in_other c.args.part c.args.transaction c.args.others.now.items c.place_in-place.result.0 (spot (goal.at.returns-then-left-gt0-clause-apart c).After-place_in-place) r ne (c.place_in-place.result.1 - 1)

pub returns-else-left-gt0-clause-gone : goal.returns-else-left-gt0-clause-gone
returns-else-left-gt0-clause-gone c = λ _.
    ap (others_in c.args.part) c.remove.ensures.items
    ∙ out_of_part c.args.part c.args.transaction c.args.others.now.items c.place_in-place.result.0 (spot (goal.at.returns-else-left-gt0-clause-gone c).After-place_in-place) c.requires.sorted c.requires.there

pub returns-else-left-gt0-clause-apart : goal.returns-else-left-gt0-clause-apart
returns-else-left-gt0-clause-apart c = λ r ne.
    ap (others_in r) c.remove.ensures.items
    ∙ out_of_other c.args.part c.args.transaction c.args.others.now.items c.place_in-place.result.0 (spot (goal.at.returns-else-left-gt0-clause-apart c).After-place_in-place) r ne
