use Rattle.std.proofs.Common.{◌∙◌, subst, sym}
use Rattle.std.proofs.lemmas.Option.{IfSome_then}
use Rattle.cg_program.specs.Program.{IsPlayed}
use Rattle.cg_program.proofs.ProgramLemmas.{is_played}
use Rattle.cg_program.proofs.named.replay_named.Goals as goal

pub returns-in-Ok-clause-done : goal.returns-in-Ok-clause-done
returns-in-Ok-clause-done g c = λ _. let done = c.in-Ok.ensures.done in (c.in-Ok.is_refused, done.0, c.status_of_played.ensures, done.1, done.2)

pub returns-in-Ok-clause-unchanged : goal.returns-in-Ok-clause-unchanged
returns-in-Ok-clause-unchanged g c = λ failed. absurd (failed (subst IsPlayed (sym c.status_of_played.ensures) (is_played c.args.is_strict c.in-Ok.is_refused)))

pub returns-in-Ok-clause-inputs : goal.returns-in-Ok-clause-inputs
returns-in-Ok-clause-inputs g c = IfSome_then c.args.history c.in-Ok.ensures.inputs (λ name f known. absurd (f known).0)

pub returns-in-Ok-clause-barred : goal.returns-in-Ok-clause-barred
returns-in-Ok-clause-barred g c = IfSome_then c.args.history c.in-Ok.ensures.barred (λ name f known. absurd (f known).0)

pub returns-in-Err-clause-inputs : goal.returns-in-Err-clause-inputs
returns-in-Err-clause-inputs g c = IfSome_then c.args.history c.in-Err.ensures.inputs (λ name f known. (c.stop.ensures.status ∙ (f known).0, (f known).1))

pub returns-in-Err-clause-barred : goal.returns-in-Err-clause-barred
returns-in-Err-clause-barred g c = IfSome_then c.args.history c.in-Err.ensures.barred (λ name f known. (c.stop.ensures.status ∙ (f known).0, (f known).1))
