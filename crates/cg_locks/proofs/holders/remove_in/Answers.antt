-- Another count at the number's place, or none.
use Rattle.std.proofs.Common.{◌-◌, ap, ◌∙◌, length, arith}
use Rattle.cg_locks.specs.Holders.{place_of}
use Rattle.cg_locks.proofs.Places.{out_is_without, over_is_put, placed}
use Rattle.cg_locks.proofs.holders.remove_in.Goals as goal

pub index_mut-requires : goal.index_mut-requires
index_mut-requires c =
    let low = placed c.args.entries.now.items c.args.transaction c.place_in-place.result.0 c.requires.sorted c.requires.there (c.place_in-place.ensures.place ∙ ap (place_of c.args.transaction) c.deref.ensures.value) in
    let same = ap length c.deref.ensures.value in
    omega (arith, low, same, c.deref.ensures.len)

pub remove-requires : goal.remove-requires
remove-requires c =
    let low = placed c.args.entries.now.items c.args.transaction c.place_in-place.result.0 c.requires.sorted c.requires.there (c.place_in-place.ensures.place ∙ ap (place_of c.args.transaction) c.deref.ensures.value) in
    let same = ap length c.deref.ensures.value in
    omega (arith, low, same, c.deref.ensures.len)

pub returns-then-left-gt0-clause-less : goal.returns-then-left-gt0-clause-less
returns-then-left-gt0-clause-less c = λ _.
    over_is_put c.args.entries.now.items c.args.transaction (c.place_in-place.result.1 - 1) c.place_in-place.result.0 c.requires.sorted c.requires.there (c.place_in-place.ensures.place ∙ ap (place_of c.args.transaction) c.deref.ensures.value)

pub returns-else-left-gt0-clause-gone : goal.returns-else-left-gt0-clause-gone
returns-else-left-gt0-clause-gone c = λ _.
    c.remove.ensures.items
    ∙ out_is_without c.args.entries.now.items c.args.transaction c.place_in-place.result.0 c.requires.sorted c.requires.there (c.place_in-place.ensures.place ∙ ap (place_of c.args.transaction) c.deref.ensures.value)
