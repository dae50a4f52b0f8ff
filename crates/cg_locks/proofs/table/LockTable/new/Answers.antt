use Rattle.std.proofs.Common.{◌+◌, ◌∙◌}
use Rattle.cg_locks.proofs.Boths.{both_told}
use Rattle.cg_locks.proofs.table.LockTable.new.Goals as goal

pub returns : goal.returns
returns c = λ u m. both_told c.new.result c.new-2.result u m ∙ (λ i. c.new.ensures u m i + c.new-2.ensures u m i)
