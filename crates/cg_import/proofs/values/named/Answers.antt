use Rattle.std.proofs.Common.{subst, sym}
use Rattle.std.specs.Str.{IsUtf8}
use Rattle.cg_text.proofs.Operations.{name_is_text}
use Rattle.cg_import.proofs.values.named.Goals as goal

pub returns-in-Err-clause-none : goal.returns-in-Err-clause-none
returns-in-Err-clause-none c = λ d e. c.in-Err.ensures.cases.0 (subst IsUtf8 (sym e) (name_is_text d))
