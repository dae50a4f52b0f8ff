use Rattle.std.proofs.Common.{◌≡◌, true, false, Err, ap, subst}
use Rattle.std.specs.Prelude.{is_some}
use Rattle.std.specs.Option.{option_map}
use Rattle.cg_history.specs.Meaning.{request_of}
use Rattle.cg_script.specs.Request.{SpellsLine}
use Rattle.cg_script.specs.Turns.{session_number}
use Rattle.cg_script.proofs.Facts.{on_ok_map}
use Rattle.cg_check.proofs.Schedules.{no_number, nothing_passes, request_passes}
use Rattle.cg_check.proofs.schedule.check_line.Goals as goal

pub returns-then-branch-clause-passes : goal.returns-then-branch-clause-passes
returns-then-branch-clause-passes c =
    let spelled = subst (λ call. SpellsLine c.args.line.now (option_map (λ k. (k.0, request_of k.1)) call)) c.in-Ok-Some.field-0-is c.in-Ok-Some.ensures.value in
    let known : is_some (session_number c.args.names.now.keys c.in-Ok-Some.name) ≡ true = cc (c.in_ok-add_name-in-Ok-Some.ensures.number, c.if-branch.true) in
    λ zero. (zero, request_passes c.args.names.now.keys c.args.line.now c.in-Ok-Some.name (request_of c.in-Ok-Some.request) c.add_name.new.names.keys spelled known (c.in_ok-add_name-in-Ok-Some.ensures.names c.if-branch.true))

pub returns-in_ok-one_name_more-in-Ok-Some-clause-fails : goal.returns-in_ok-one_name_more-in-Ok-Some-clause-fails
returns-in_ok-one_name_more-in-Ok-Some-clause-fails c =
    let spelled = subst (λ call. SpellsLine c.args.line.now (option_map (λ k. (k.0, request_of k.1)) call)) c.in-Ok-Some.field-0-is c.in-Ok-Some.ensures.value in
    let unknown : is_some (session_number c.args.names.now.keys c.in-Ok-Some.name) ≡ false = cc (c.in_ok-add_name-in-Ok-Some.ensures.number, c.if-branch.false) in
    on_ok_map c.add.result (λ some zero more. no_number c.args.names.now.keys c.args.line.now c.in-Ok-Some.name (request_of c.in-Ok-Some.request) spelled unknown) c.add.ensures

pub returns-in_ok-why_no_call-in-Err-Syntax-clause-fails : goal.returns-in_ok-why_no_call-in-Err-Syntax-clause-fails
returns-in_ok-why_no_call-in-Err-Syntax-clause-fails c =
    on_ok_map c.add-in-Err-Syntax.result (λ some zero more. nothing_passes c.args.names.now.keys c.args.line.now (c.in-Err-Syntax.ensures.syntax (ap (λ e. Err e) c.in-Err-Syntax.field-0-is))) c.add-in-Err-Syntax.ensures
