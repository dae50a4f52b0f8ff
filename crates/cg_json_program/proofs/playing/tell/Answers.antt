use Rattle.std.proofs.Common.{Bool, List, subst, sym, ℕ}
use Rattle.std.proofs.lemmas.Result.{err_from_is_err_and}
use Rattle.std.specs.Io.KnownBytes.{Appends}
use Rattle.std.specs.Prelude.{IfSome}
use Rattle.cg_core.specs.State.{CoreState}
use Rattle.cg_lines.specs.Device.{AppendsFront}
use Rattle.cg_lines.specs.Lines.{pending}
use Rattle.cg_json_program.proofs.Played.{front_nothing}
use Rattle.cg_json_program.specs.Output.{IsToldFrom, opened_reporter}
use Rattle.cg_json_program.specs.Run.{PlaysTold, PlaysToldFrom}
use Rattle.cg_json_program.proofs.playing.tell.Goals as goal

pub returns-in_err-reporter-clause-front : goal.returns-in_err-reporter-clause-front
returns-in_err-reporter-clause-front g c =
    let p = err_from_is_err_and c.from_residual.result c.from_residual.ensures.1 in
    rw p.1 (front_nothing (opened_reporter c.args.world c.args.limit) (pending c.args.reader.now) (g.K.Sink.taken c.args.sink.now))

pub returns-in-Ok-clause-output : goal.returns-in-Ok-clause-output
returns-in-Ok-clause-output g c =
    let was = g.K.Sink.taken c.args.sink.now in
    let is = g.K.Sink.taken c.play.new.sink in
    let text = pending c.args.reader.now in
    let refused = c.in-Ok.is_refused in
    subst (λ (k : CoreState). IfSome text (λ x. (out : List ℕ) × PlaysTold c.args.world c.args.limit x refused out k.history × Appends was is out)) (sym c.into_core.ensures)
    (subst (λ s. IfSome text (λ x. (out : List ℕ) × PlaysToldFrom s x refused out c.play.new.reporter.player.core.history × Appends was is out)) c.in_ok-reporter.ensures c.in-Ok.ensures.output)

pub returns-in-Err-clause-front : goal.returns-in-Err-clause-front
returns-in-Err-clause-front g c =
    subst (λ s. IfSome (pending c.args.reader.now) (λ text. (b : Bool) (out : List ℕ) → IsToldFrom s text b out → AppendsFront (g.K.Sink.taken c.args.sink.now) (g.K.Sink.taken c.play.new.sink) out))
    c.in_ok-reporter.ensures c.in-Err.ensures.front
