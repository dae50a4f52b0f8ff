-- The record there asked for it.
use Rattle.std.proofs.Common.{Some, ap, sym, ◌∙◌}
use Rattle.cg_history.specs.Meaning.{answer_of, request_of}
use Rattle.cg_core_laws.specs.CommittedCommands.{accepted_command}
use Rattle.cg_view.proofs.Asked.{accepted_do, asked_by, no_command, no_record}
use Rattle.cg_view.proofs.walk.command_at.Goals as goal

pub returns-in_err-command : goal.returns-in_err-command
returns-in_err-command c = λ k e. absurd (no_record c.args.records.now c.args.index k c.in_err-command.ensures.lookup.0 e)

pub returns-in-Do : goal.returns-in-Do
returns-in-Do c = λ k e.
    let r = c.in_ok-command.field-0.now in
    let is = asked_by c.args.records.now c.args.index k r c.in_ok-command.ensures.lookup.0 c.in_ok-command.ensures.lookup.1 e in
    ap Some (accepted_do _ k (answer_of r.answer) (ap (λ q. accepted_command (request_of q) (answer_of r.answer)) (sym c.in-Do.is) ∙ is))

pub returns-in_default : goal.returns-in_default
returns-in_default c = λ k e.
    let r = c.in_ok-command.field-0.now in
    absurd (no_command r.request (answer_of r.answer) k c.in_default.not-Do (asked_by c.args.records.now c.args.index k r c.in_ok-command.ensures.lookup.0 c.in_ok-command.ensures.lookup.1 e))
