use Rattle.cg_script.proofs.WrittenLines.{written_lines_are_spelled}
use Rattle.cg_script.proofs.request.written_lines_are_spelled.Goals as goal

pub returns : goal.returns
returns c = written_lines_are_spelled
