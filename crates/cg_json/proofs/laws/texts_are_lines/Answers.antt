use Rattle.cg_json.proofs.Shown.{texts_are_lines}
use Rattle.cg_json.proofs.laws.texts_are_lines.Goals as goal

pub returns : goal.returns
returns c = texts_are_lines
