-- A new number at its place, or another count there.
use Rattle.std.proofs.Common.{◌≡◌, ap, ◌∙◌, length, unwrap_or, arith}
use Rattle.std.specs.FinMap.Entries.{find}
use Rattle.std.specs.Ordering.{nat_cmp}
use Rattle.cg_locks.specs.Holders.{place_of}
use Rattle.cg_locks.proofs.Places.{new_is_put, over_is_put, placed}
use Rattle.cg_locks.proofs.holders.add_in.Goals as goal

pub index_mut-requires : goal.index_mut-requires
index_mut-requires c =
    let es = c.args.entries.now.items in
    let t = c.args.transaction in
    let count : c.place_in-place.result.1 ≡ unwrap_or (find nat_cmp t es) 0 = c.place_in-place.ensures.count ∙ ap (λ xs. unwrap_or (find nat_cmp t xs) 0) c.deref.ensures.value in
    let low = placed es t c.place_in-place.result.0 c.requires.sorted (omega (arith, c.if-more-gt1.true, c.in-Some.ensures, count)) (c.place_in-place.ensures.place ∙ ap (place_of t) c.deref.ensures.value) in
    let same = ap length c.deref.ensures.value in
    omega (arith, low, same, c.deref.ensures.len)

pub returns-then-more-gt1-clause-ok : goal.returns-then-more-gt1-clause-ok
returns-then-more-gt1-clause-ok c =
    let es = c.args.entries.now.items in
    let t = c.args.transaction in
    let count : c.place_in-place.result.1 ≡ unwrap_or (find nat_cmp t es) 0 = c.place_in-place.ensures.count ∙ ap (λ xs. unwrap_or (find nat_cmp t xs) 0) c.deref.ensures.value in
    over_is_put es t c.in-Some.more c.place_in-place.result.0 c.requires.sorted (omega (arith, c.if-more-gt1.true, c.in-Some.ensures, count)) (c.place_in-place.ensures.place ∙ ap (place_of t) c.deref.ensures.value)

pub returns-in_ok-insert-clause-ok : goal.returns-in_ok-insert-clause-ok
returns-in_ok-insert-clause-ok c =
    let es = c.args.entries.now.items in
    let t = c.args.transaction in
    let count : c.place_in-place.result.1 ≡ unwrap_or (find nat_cmp t es) 0 = c.place_in-place.ensures.count ∙ ap (λ xs. unwrap_or (find nat_cmp t xs) 0) c.deref.ensures.value in
    c.in_ok-insert.ensures.items
    ∙ new_is_put es t c.in-Some.more c.place_in-place.result.0 c.requires.positive (omega (arith, c.if-more-gt1.false, c.in-Some.ensures, count)) (c.place_in-place.ensures.place ∙ ap (place_of t) c.deref.ensures.value)
