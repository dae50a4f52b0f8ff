use Rattle.std.proofs.Common.{◌==◌, ap, ◌∙◌}
use Rattle.cg_locks.specs.Held.{part_number}
use Rattle.cg_locks.proofs.Parts.{same_numbers}
use Rattle.cg_locks.proofs.held.Part.is.Goals as goal

pub returns : goal.returns
returns c = ap (λ n. n == c.number-2.result) c.number.ensures.number ∙ ap (λ n. part_number c.args.self == n) c.number-2.ensures.number ∙ same_numbers c.args.self c.args.other
