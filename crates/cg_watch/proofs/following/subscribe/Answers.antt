-- Its Viewer had seen nothing before.
use Rattle.std.proofs.Common.{inl, inr, subst}
use Rattle.cg_view.specs.Viewers.{seen_by}
use Rattle.cg_watch.specs.Watches.{TellsFront, TellsWhole}
use Rattle.cg_watch.proofs.following.subscribe.Goals as goal

pub returns-then-not-look : goal.returns-then-not-look
returns-then-not-look g c =
    let watch = c.args.watch.now in
    let told = c.if-not-look.ensures.front in
    inr (
      record {
        path = told.path;
        file = told.file;
        told = subst (λ v. TellsFront watch.path watch.file v (g.S.Sink.taken watch.sink) (g.S.Sink.taken c.look.new.watch.sink)) c.in-Ok-viewer.ensures told.told;
      },
      c.look.ensures.subscription,
    )

pub returns : goal.returns
returns g c =
    let watch = c.args.watch.now in
    let told = c.if-not-look.ensures.whole in
    inl (record {
      path = told.path;
      file = told.file;
      told = subst (λ v. TellsWhole watch.path watch.file v (seen_by c.look.new.viewer) (g.S.Sink.taken watch.sink) (g.S.Sink.taken c.look.new.watch.sink)) c.in-Ok-viewer.ensures told.told;
    })
