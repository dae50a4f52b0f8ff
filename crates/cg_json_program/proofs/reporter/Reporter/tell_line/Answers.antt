use Rattle.std.proofs.Common.{Err, ap, subst}
use Rattle.std.proofs.lemmas.Result.{IfOk-weaker}
use Rattle.std.specs.Option.{option_map}
use Rattle.cg_history.specs.Meaning.{request_of}
use Rattle.cg_script.specs.Request.{SpellsLine}
use Rattle.cg_json_program.proofs.Lines.{line_asked, line_bad, line_silent}
use Rattle.cg_json_program.proofs.reporter.Reporter.tell_line.Goals as goal

pub returns-in-Ok-None : goal.returns-in-Ok-None
returns-in-Ok-None c =
    let spelled = subst (λ call. SpellsLine c.args.line.now (option_map (λ k. (k.0, request_of k.1)) call)) c.in-Ok-None.field-0-is c.in-Ok-None.ensures.value in
    line_silent c.args.self.now c.saturating_add-self.result c.args.line.now c.new.result.items spelled c.saturating_add-self.ensures c.new.ensures.items

pub returns-in-Ok-Some : goal.returns-in-Ok-Some
returns-in-Ok-Some c =
    let spelled = subst (λ call. SpellsLine c.args.line.now (option_map (λ k. (k.0, request_of k.1)) call)) c.in-Ok-Some.field-0-is c.in-Ok-Some.ensures.value in
    IfOk-weaker c.tell_call.result _ _
    (λ out told. line_asked c.args.self.now c.tell_call.new.self c.saturating_add-self.result c.args.line.now c.in-Ok-Some.name out.items (request_of c.in-Ok-Some.request) spelled c.saturating_add-self.ensures told)
    c.tell_call.ensures

pub returns-in-Err-Syntax : goal.returns-in-Err-Syntax
returns-in-Err-Syntax c =
    IfOk-weaker c.tell_bad.result _ _
    (λ out text. line_bad c.args.self.now c.tell_bad.new.self c.saturating_add-self.result c.args.line.now out.items (c.in-Err-Syntax.ensures.syntax (ap (λ e. Err e) c.in-Err-Syntax.field-0-is)) c.saturating_add-self.ensures c.tell_bad.ensures.state text)
    c.tell_bad.ensures.text
