use Rattle.std.proofs.Common.{Err, ap}
use Rattle.cg_name.specs.declared.refusal.Refusal.{Refusal}
use Rattle.cg_line_machine.proofs.SameRefusal.{same_refusal}
use Rattle.cg_line_machine.proofs.machine.LineMachine.open.Goals as goal

pub returns-in-Err-clause-syntax : goal.returns-in-Err-clause-syntax
returns-in-Err-clause-syntax c = λ is. c.in-Err.ensures.syntax (ap (λ (x : Refusal). Err x) (same_refusal is))

pub returns-in_ok-player-in-Ok-clause-value : goal.returns-in_ok-player-in-Ok-clause-value
returns-in_ok-player-in-Ok-clause-value c = (c.in-Ok.world, c.in-Ok.ensures.value, c.in_ok-player-in-Ok.ensures)
