use Rattle.cg_lines.proofs.LinesLaw.{steps_are_lines}
use Rattle.cg_lines.proofs.lines.steps_are_lines.Goals as goal

pub returns : goal.returns
returns c = steps_are_lines
