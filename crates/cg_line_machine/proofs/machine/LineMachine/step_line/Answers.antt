use Rattle.std.proofs.Common.{subst}
use Rattle.std.specs.Option.{option_map}
use Rattle.cg_history.specs.Meaning.{request_of}
use Rattle.cg_script.specs.Request.{SpellsLine}
use Rattle.cg_line_machine.proofs.LineSteps.{ok_replayed, ok_steps}
use Rattle.cg_line_machine.proofs.machine.LineMachine.step_line.Goals as goal

pub returns-in-Ok-Some-clause-steps : goal.returns-in-Ok-Some-clause-steps
returns-in-Ok-Some-clause-steps c =
    let spelled = subst (λ call. SpellsLine c.args.line.now (option_map (λ k. (k.0, request_of k.1)) call)) c.in-Ok-Some.field-0-is c.in-Ok-Some.ensures.value in
    ok_steps c.args.self.now c.ask.new.self c.args.line.now c.in-Ok-Some.name (request_of c.in-Ok-Some.request) c.ask.result spelled c.ask.ensures.asked

pub returns-in-Ok-Some-clause-replayed : goal.returns-in-Ok-Some-clause-replayed
returns-in-Ok-Some-clause-replayed c =
    let spelled = subst (λ call. SpellsLine c.args.line.now (option_map (λ k. (k.0, request_of k.1)) call)) c.in-Ok-Some.field-0-is c.in-Ok-Some.ensures.value in
    ok_replayed c.args.self.now c.ask.new.self c.args.line.now c.ask.result
    (ok_steps c.args.self.now c.ask.new.self c.args.line.now c.in-Ok-Some.name (request_of c.in-Ok-Some.request) c.ask.result spelled c.ask.ensures.asked)
