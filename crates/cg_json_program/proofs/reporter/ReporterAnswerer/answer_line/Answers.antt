use Rattle.std.proofs.Common.{◌++◌, ap, ◌∙◌}
use Rattle.cg_json_program.proofs.reporter.ReporterAnswerer.answer_line.Goals as goal

pub returns-clause-ok : goal.returns-clause-ok
returns-clause-ok c =
    (c.in_ok-told.told.items, c.in_ok-extend_from_slice.ensures.items ∙ ap (λ x. c.args.out.now.items ++ x) c.as_slice.ensures.value, c.in_ok-told.ensures)
