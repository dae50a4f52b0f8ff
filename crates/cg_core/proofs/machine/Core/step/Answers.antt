use Rattle.cg_history.specs.Meaning.{request_of}
use Rattle.cg_core.proofs.SteppedAs.{proper_request, told_unless}
use Rattle.cg_core.proofs.machine.Core.step.Goals as goal

pub returns-clause-machine : goal.returns-clause-machine
returns-clause-machine c =
    told_unless _ c.args.self.now _ c.args.session.0 (request_of c.args.request) _
    (c.tell_steps.ensures c.args.session.0 (request_of c.args.request) (proper_request c.args.request)) c.answer-answer.ensures.answer c.answer-answer.ensures.state
