-- The lesser of the least by those that are no marks on numbers of descendants, and by these.
use Rattle.std.proofs.Common.{map, option_map}
use Rattle.cg_locks.specs.Holders.{number_of}
use Rattle.cg_locks.specs.Meaning.{counts_of, mark_of}
use Rattle.cg_locks.proofs.CountedMarks.{least_of_two}
use Rattle.cg_locks.proofs.table.LockTable.clash_with_several.Goals as goal

pub returns : goal.returns
returns c =
    least_of_two c.args.self.now c.args.transaction.0 (map mark_of c.parts.result.0.now) (counts_of c.parts.result.1) c.args.footprint.now c.parts.ensures.marks
    (option_map number_of c.clash_with_all-least.result) (option_map number_of c.clash_with_counted.result) c.lesser.result c.lesser.ensures c.clash_with_all-least.ensures c.clash_with_counted.ensures
