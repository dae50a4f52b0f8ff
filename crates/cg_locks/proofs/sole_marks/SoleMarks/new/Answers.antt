use Rattle.std.proofs.Common.{ap, ◌∙◌}
use Rattle.cg_locks.specs.Sole.{sole_table}
use Rattle.cg_locks.specs.Holdings.{holdings}
use Rattle.cg_locks.proofs.Soles.{nothing_told}
use Rattle.cg_locks.proofs.sole_marks.SoleMarks.new.Goals as goal

pub returns : goal.returns
returns c = λ u m. ap (λ es. holdings (sole_table 0 es) u m) c.new.ensures.items ∙ nothing_told 0 u m
