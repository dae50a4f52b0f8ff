-- What stands at the spot of 0, where anything does.
use Rattle.std.proofs.Common.{sym, arith}
use Rattle.std.proofs.lemmas.Option.{slice_get-get_or, slice_get_past}
use Rattle.cg_locks.specs.declared.held.Part.TheVariants.{ChangedAt}
use Rattle.cg_locks.proofs.Others.{entry, least_told}
use Rattle.cg_locks.proofs.other_holders.least_in.Goals as goal

pub returns-then-place-others : goal.returns-then-place-others
returns-then-place-others c =
    let es = c.args.others.now in
    let k = c.place_in-place.result.0 in
    sym (least_told c.args.part es k c.place_in-place.ensures.place _ (slice_get-get_or es k (entry ChangedAt 0 0) (omega (arith, c.if-place-others.true))))

pub returns-else-place-others : goal.returns-else-place-others
returns-else-place-others c =
    let es = c.args.others.now in
    let k = c.place_in-place.result.0 in
    sym (least_told c.args.part es k c.place_in-place.ensures.place _ (slice_get_past es k (omega (arith, c.if-place-others.false))))
