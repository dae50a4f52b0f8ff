use Rattle.std.proofs.Common.{ℕ, Bool, List, subst, sym}
use Rattle.std.specs.Prelude.{IfSome}
use Rattle.std.specs.Io.KnownBytes.{Appends}
use Rattle.std.proofs.lemmas.Result.{err_from_is_err_and}
use Rattle.cg_core.specs.State.{CoreState}
use Rattle.cg_lines.specs.Device.{AppendsFront}
use Rattle.cg_lines.specs.Lines.{pending}
use Rattle.cg_explain.specs.Explained.{opened_with, IsExplainedFrom}
use Rattle.cg_explain.specs.Run.{PlaysExplained, PlaysExplainedFrom}
use Rattle.cg_explain.proofs.Played.{front_nothing}
use Rattle.cg_explain.proofs.playing.explain.Goals as goal

pub returns-in_err-explainer-clause-front : goal.returns-in_err-explainer-clause-front
returns-in_err-explainer-clause-front g c =
    let p = err_from_is_err_and c.from_residual.result c.from_residual.ensures.1 in
    rw p.1 (front_nothing (opened_with c.args.comments c.args.world c.args.limit) (pending c.args.reader.now) (g.K.Sink.taken c.args.sink.now))

pub returns-in-Ok-clause-output : goal.returns-in-Ok-clause-output
returns-in-Ok-clause-output g c =
    let was = g.K.Sink.taken c.args.sink.now in
    let is = g.K.Sink.taken c.play.new.sink in
    let text = pending c.args.reader.now in
    let refused = c.in-Ok.is_refused in
    subst (λ (k : CoreState). IfSome text (λ x. (out : List ℕ) × PlaysExplained c.args.comments c.args.world c.args.limit x refused out k.history × Appends was is out)) (sym c.into_core.ensures)
    (subst (λ s. IfSome text (λ x. (out : List ℕ) × PlaysExplainedFrom s x refused out c.play.new.explainer.player.core.history × Appends was is out)) c.in_ok-explainer.ensures c.in-Ok.ensures.output)

pub returns-in-Err-clause-front : goal.returns-in-Err-clause-front
returns-in-Err-clause-front g c =
    subst (λ s. IfSome (pending c.args.reader.now) (λ text. (b : Bool) (out : List ℕ) → IsExplainedFrom s text b out → AppendsFront (g.K.Sink.taken c.args.sink.now) (g.K.Sink.taken c.play.new.sink) out))
    c.in_ok-explainer.ensures c.in-Err.ensures.front
