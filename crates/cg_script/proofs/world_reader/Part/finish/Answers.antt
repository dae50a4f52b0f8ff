use Rattle.std.proofs.Common.{Err, ap}
use Rattle.cg_script.proofs.world_reader.Part.finish.Goals as goal

pub returns-in-Err-Syntax-clause-syntax : goal.returns-in-Err-Syntax-clause-syntax
returns-in-Err-Syntax-clause-syntax c = λ _. c.in-Err-Syntax.ensures.syntax (ap (λ e. Err e) c.in-Err-Syntax.field-0-is)
