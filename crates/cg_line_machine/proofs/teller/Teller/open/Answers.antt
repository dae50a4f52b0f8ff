use Rattle.std.proofs.Common.{None, Err, ap}
use Rattle.cg_name.specs.declared.refusal.Refusal.{Refusal}
use Rattle.cg_line_machine.proofs.SameRefusal.{same_refusal}
use Rattle.cg_line_machine.proofs.teller.Teller.open.Goals as goal

pub returns-in-Ok-clause-value : goal.returns-in-Ok-clause-value
returns-in-Ok-clause-value c =
    let opened = c.in-Ok.ensures.value in (opened.0, opened.1, λ i. record { machine = opened.2 i; answer = None; text = c.new.ensures.items i })

pub returns-in-Err-clause-syntax : goal.returns-in-Err-clause-syntax
returns-in-Err-clause-syntax c = λ is. c.in-Err.ensures.syntax (ap (λ (x : Refusal). Err x) (same_refusal is))
