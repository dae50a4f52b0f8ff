use Rattle.std.proofs.Common.{Some, None, subst}
use Rattle.std.specs.Option.{option_map}
use Rattle.cg_history.specs.Meaning.{answer_of, request_of}
use Rattle.cg_replay.specs.Replay.{Replay, IsAnswered}
use Rattle.cg_line_machine.proofs.LineSteps.{asked_answered, asked_too_many}
use Rattle.cg_line_machine.proofs.machine.LineMachine.ask.Goals as goal

pub returns-in_default-clause-asked : goal.returns-in_default-clause-asked
returns-in_default-clause-asked c =
    let r = request_of c.args.request in
    asked_too_many c.args.self.now c.ask.new.self c.args.name r
    (subst (λ (s : Replay). IsAnswered s c.args.name r None c.ask.new.self) c.self.view_is (subst (λ o. IsAnswered c.self.inside.player c.args.name r (option_map answer_of o) c.ask.new.self) c.in_default.is c.in_ok-answer.ensures.asked))

pub returns-clause-asked : goal.returns-clause-asked
returns-clause-asked c =
    let r = request_of c.args.request in
    asked_answered c.args.self.now c.ask.new.self c.args.name r (answer_of c.in-Some.answer)
    (subst (λ (s : Replay). IsAnswered s c.args.name r (Some (answer_of c.in-Some.answer)) c.ask.new.self) c.self.view_is (subst (λ o. IsAnswered c.self.inside.player c.args.name r (option_map answer_of o) c.ask.new.self) c.in-Some.is c.in_ok-answer.ensures.asked))
