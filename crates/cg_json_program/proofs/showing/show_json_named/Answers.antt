use Rattle.std.proofs.Common.{inr, ap}
use Rattle.std.specs.Prelude.{Err}
use Rattle.cg_program.specs.Fault.{refusal_of_fault}
use Rattle.cg_program.proofs.ShowLemmas.{told_write_fault}
use Rattle.cg_json_program.proofs.showing.show_json_named.Goals as goal

pub returns-in-Err-clause-told : goal.returns-in-Err-clause-told
returns-in-Err-clause-told g c =
    let e = c.in-Err.fault in
    inr (
      refusal_of_fault e,
      c.tell.ensures.status,
      c.tell.ensures.line,
      c.in-Err.ensures.why,
      λ h. c.in-Err.ensures.writes (ap (λ f. Err f) (told_write_fault e h)),
    )
