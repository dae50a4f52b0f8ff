use Rattle.std.proofs.Common.{◌≡◌, Some, refl, sym, subst}
use Rattle.cg_view.specs.Viewers.{seen_by}
use Rattle.cg_watch.specs.Subscribed.{seen_through}
use Rattle.cg_watch.specs.Watches.{HasToldSince, HasToldWhole, TellsFront}
use Rattle.cg_watch.proofs.Telling.{same_watch, still, watch_front, watch_then_front, watch_whole}
use Rattle.cg_watch.proofs.following.follow.Goals as goal

pub loop-told-preserved : goal.loop-told-preserved
loop-told-preserved g c =
    let same : seen_by c.learn.new.self ≡ seen_by c.loop-told.viewer = cc c.learn.ensures.seen in
    watch_whole g.S.Sink.taken _ _ _ _ c.loop-told.watch c.look.new.watch c.loop-told.invariant
    (subst (λ v. HasToldWhole g.S.Sink.taken v (seen_by c.look.new.viewer) c.loop-told.watch c.look.new.watch) same c.if-not-look.ensures.whole)

-- it had a subscription
pub returns-then-not-look : goal.returns-then-not-look
returns-then-not-look g c =
    let watch = c.args.watch.now in
    let same : seen_by c.learn.new.self ≡ seen_by c.loop-told.viewer = cc c.learn.ensures.seen in
    let had : watch.subscription ≡ Some c.in-Some.subscription = cc (c.take.ensures.value, c.in-Some.is) in
    let told =
    watch_then_front g.S.Sink.taken _ _ _ c.loop-told.watch c.look.new.watch c.loop-told.invariant
    (subst (λ v. HasToldSince g.S.Sink.taken v c.loop-told.watch c.look.new.watch) same c.if-not-look.ensures.front) in
    record {
      tells = record {
        path = told.path;
        file = told.file;
        told = subst (λ s. TellsFront watch.path watch.file (seen_through s) (g.S.Sink.taken watch.sink) (g.S.Sink.taken c.look.new.watch.sink)) (sym had) told.told;
      };
      unsubscribed = λ none. cc (none, had);
    }

pub returns : goal.returns
returns g c =
    let watch = c.args.watch.now in
    let had : watch.subscription ≡ Some c.in-Some.subscription = cc (c.take.ensures.value, c.in-Some.is) in
    let told = watch_front g.S.Sink.taken _ _ _ c.loop-told.watch c.loop-told.invariant in
    record {
      tells = record {
        path = told.path;
        file = told.file;
        told = subst (λ s. TellsFront watch.path watch.file (seen_through s) (g.S.Sink.taken watch.sink) (g.S.Sink.taken c.loop-told.watch.sink)) (sym had) told.told;
      };
      unsubscribed = λ none. cc (none, had);
    }

pub returns-in_default : goal.returns-in_default
returns-in_default g c =
    let told = watch_front g.S.Sink.taken _ _ _ _ (same_watch g.S.Sink.taken _ _ c.args.watch.now (still (seen_through c.args.watch.now.subscription))) in
    record {
      tells = record { path = told.path; file = told.file; told = told.told };
      unsubscribed = λ none. refl;
    }
