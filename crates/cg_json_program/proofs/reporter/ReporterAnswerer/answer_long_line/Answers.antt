use Rattle.std.proofs.Common.{◌++◌, ap, ◌∙◌}
use Rattle.cg_json_program.proofs.Lines.{line_bad, too_long}
use Rattle.cg_json_program.proofs.reporter.ReporterAnswerer.answer_long_line.Goals as goal

pub returns-clause-ok : goal.returns-clause-ok
returns-clause-ok c = (
  c.in_ok-told.told.items,
  c.in_ok-extend_from_slice.ensures.items ∙ ap (λ x. c.args.out.now.items ++ x) c.as_slice.ensures.value,
  λ line long. line_bad c.args.self.now c.tell_bad.new.self c.saturating_add-self.result line c.in_ok-told.told.items (λ call. too_long line call long) c.saturating_add-self.ensures c.tell_bad.ensures.state c.in_ok-told.ensures.text,
)
