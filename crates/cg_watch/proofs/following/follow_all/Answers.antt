use Rattle.std.proofs.Common.{length, arith, of_calls, rules, sym, subst, ap}
use Rattle.std.specs.List.{AllZip}
use Rattle.cg_watch.proofs.Telling.{all_left, zip_at}
use Rattle.cg_watch.specs.Subscribed.{Follows}
use Rattle.cg_watch.proofs.following.follow_all.Goals as goal

-- each watch did what a call of the closure may do
pub returns : goal.returns
returns g c =
    let taken = g.S.Sink.taken in
    let watches = c.args.watches.items in
    let lent = c.as_mut_slice.result.now in
    let left = c.for_each_mut.new.s in
    let given : AllZip (Follows taken) lent left =
    zip_at (Follows taken) lent left (omega arith) (λ i d inside. let call = (c.for_each_mut.ensures i d inside).1 in search (rules, of_calls)) in
    subst (λ l. AllZip (Follows taken) watches l)
    (sym (all_left watches left c.args.watches.len (omega (arith, ap length c.as_mut_slice.ensures.value)) (omega arith)))
    (subst (λ l. AllZip (Follows taken) l left) c.as_mut_slice.ensures.value given)
