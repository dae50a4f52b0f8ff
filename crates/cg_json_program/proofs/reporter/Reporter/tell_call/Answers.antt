use Rattle.std.proofs.Common.{ap, ◌∙◌}
use Rattle.std.proofs.lemmas.Result.{IfOk-weaker}
use Rattle.std.specs.Option.{option_map}
use Rattle.cg_history.specs.Meaning.{request_of}
use Rattle.cg_json_program.specs.Meaning.{said_of}
use Rattle.cg_json_program.proofs.Lines.{call_asked, call_bad}
use Rattle.cg_json_program.proofs.reporter.Reporter.tell_call.Goals as goal

pub returns-in-None : goal.returns-in-None
returns-in-None c =
    IfOk-weaker c.tell_bad.result _ _
    (λ out text. call_bad c.args.self.now c.tell_bad.new.self c.args.name (request_of c.args.request) _ c.ask.new.player out.items c.in_ok-ask.ensures (ap (option_map said_of) c.in-None.is) c.tell_bad.ensures.state text)
    c.tell_bad.ensures.text

pub returns : goal.returns
returns c =
    IfOk-weaker c.tell_reply.result _ _
    (λ out text. call_asked c.args.self.now c.tell_reply.new.self c.args.name c.as_slice.result.now (request_of c.args.request) _ (said_of c.in-Some.reply) c.ask.new.player out.items c.in_ok-ask.ensures (ap (option_map said_of) c.in-Some.is) (c.as_slice.ensures.value ∙ c.in_ok-words.ensures) c.tell_reply.ensures.state text)
    c.tell_reply.ensures.text
