-- What stands at the spot of 0 is the least of the part, and goes.
use Rattle.std.proofs.Common.{◌≡◌, ◌<◌, ◌≤◌, length, [], Some, None, refl, sym, ap, ◌∙◌, arith}
use Rattle.std.proofs.lemmas.Option.{slice_get_past, slice_get_read}
use Rattle.cg_locks.specs.FirstsAndOthers.{others_in, spot_of}
use Rattle.cg_locks.specs.Holders.{all_holders}
use Rattle.cg_locks.proofs.Others.{none_told, out_of_other, split_part}
use Rattle.cg_locks.proofs.other_holders.take_out_least.Goals as goal
use Rattle.cg_locks.proofs.other_holders.take_out_least.Goals.{After-remove-least, Then-place-len}

none : (c : Then-place-len) → others_in c.args.part c.args.others.now.items ≡ []
none c =
    let es = c.args.others.now.items in
    let k = c.place_in-place.result.0 in
    let past : length es ≤ k = omega (arith, c.if-place-len.true, c.len.ensures) in
    none_told c.args.part es k (c.place_in-place.ensures.place ∙ ap (spot_of c.args.part 0) c.deref.ensures.value) None (slice_get_past es k past) refl

least : (c : After-remove-least) → (0 < c.remove-least.result.times) × (all_holders c.remove-least.result.holder c.remove-least.result.times (others_in c.args.part c.remove-least.new.self.items) ≡ others_in c.args.part c.args.others.now.items)
least c =
    let es = c.args.others.now.items in
    let k = c.place_in-place.result.0 in
    let x = c.remove-least.result in
    let within : k < length es = omega (arith, c.if-place-len.false, c.len.ensures) in
    split_part c.args.part es k (c.place_in-place.ensures.place ∙ ap (spot_of c.args.part 0) c.deref.ensures.value) (Some x) (slice_get_read es (length es) k x refl within c.remove-least.ensures.value) x refl c.requires c.remove-least.new.self.items c.remove-least.ensures.items

pub returns-then-place-len-clause-all : goal.returns-then-place-len-clause-all
returns-then-place-len-clause-all c = sym (none c)

pub returns-then-place-len-clause-alone : goal.returns-then-place-len-clause-alone
returns-then-place-len-clause-alone c = λ _. none c

pub returns-clause-all : goal.returns-clause-all
returns-clause-all c = (least c).1

pub returns-clause-alone : goal.returns-clause-alone
returns-clause-alone c = λ zero. let low = (least c).0 in absurd (omega (arith, low, zero))

pub returns-clause-apart : goal.returns-clause-apart
returns-clause-apart c = λ r ne.
    ap (others_in r) c.remove-least.ensures.items ∙ out_of_other c.args.part 0 c.args.others.now.items c.place_in-place.result.0 (c.place_in-place.ensures.place ∙ ap (spot_of c.args.part 0) c.deref.ensures.value) r ne
