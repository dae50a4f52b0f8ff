use Rattle.cg_view.specs.Viewers.{seen_by}
use Rattle.cg_watch.specs.Watches.{HasToldWhole}
use Rattle.cg_watch.proofs.following.follow.Given as goal

abbrev pub invariant-loop-told : goal.invariant-loop-told
invariant-loop-told g l = HasToldWhole g.S.Sink.taken (seen_by l.initial.viewer) (seen_by l.viewer) l.initial.watch l.watch
