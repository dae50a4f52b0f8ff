use Rattle.std.proofs.Common.{arith}
use Rattle.cg_watch.specs.Subscribed.{IsSubscribed}
use Rattle.cg_watch.proofs.Telling.{same_behind, zip_at, zip_more}
use Rattle.cg_watch.proofs.following.subscribe_all.Goals as goal

pub loop-watch-preserved : goal.loop-watch-preserved
loop-watch-preserved g c =
    let old = c.args.watches.now in
    let now = c.loop-watch.watches in (
      zip_more (IsSubscribed g.S.Sink.taken) old now c.loop-watch.watch-index c.watch-item.result c.subscribe.new.watch (omega arith) c.loop-watch.invariant.0 c.loop-watch.invariant.1 c.subscribe.ensures,
      same_behind old now c.loop-watch.watch-index c.subscribe.new.watch c.loop-watch.invariant.1,
    )

pub returns : goal.returns
returns g c =
    zip_at (IsSubscribed g.S.Sink.taken) c.args.watches.now c.loop-watch.watches c.loop-watch.auto.watches
    (λ k d inside. c.loop-watch.invariant.0 k d (omega (arith, inside)))
