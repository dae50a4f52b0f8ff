use Rattle.cg_lines.proofs.LinesLemmas.{prepend_known-nil}
use Rattle.cg_lines.proofs.lines.LineReader.new.Goals as goal

pub returns-clause-pending : goal.returns-clause-pending
returns-clause-pending g c = prepend_known-nil (g.S.Source.left c.args.source)
