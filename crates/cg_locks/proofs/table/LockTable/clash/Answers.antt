-- Of one mark, the least that it finds; and of several, of all of them.
use Rattle.std.proofs.Common.{option_map}
use Rattle.cg_locks.specs.Holders.{number_of, IsLeast}
use Rattle.cg_locks.specs.Holdings.{IsInTheWay}
use Rattle.cg_locks.proofs.Ways.{least_is_found, least_of_one, none_is_found, some_found}
use Rattle.cg_locks.proofs.table.LockTable.clash.Goals as goal

by_one : (c : goal.After-clash_with) → IsLeast (IsInTheWay c.args.self.now c.args.transaction.0 c.args.footprint.now) (option_map number_of c.clash_with.result)
by_one c = least_of_one c.args.self.now c.args.transaction.0 c.args.footprint.now c.in-Some.mark.now (option_map number_of c.clash_with.result) c.in-Some.ensures c.clash_with.ensures

pub returns-in-Some-clause-some : goal.returns-in-Some-clause-some
returns-in-Some-clause-some c = some_found (IsInTheWay c.args.self.now c.args.transaction.0 c.args.footprint.now) c.clash_with.result (by_one c)

pub returns-in-Some-clause-least : goal.returns-in-Some-clause-least
returns-in-Some-clause-least c = least_is_found (IsInTheWay c.args.self.now c.args.transaction.0 c.args.footprint.now) c.clash_with.result (by_one c)

pub returns-in-Some-clause-none : goal.returns-in-Some-clause-none
returns-in-Some-clause-none c = none_is_found (IsInTheWay c.args.self.now c.args.transaction.0 c.args.footprint.now) c.clash_with.result (by_one c)

pub returns-clause-least : goal.returns-clause-least
returns-clause-least c = least_is_found (IsInTheWay c.args.self.now c.args.transaction.0 c.args.footprint.now) c.clash_with_several.result c.clash_with_several.ensures

pub returns-clause-none : goal.returns-clause-none
returns-clause-none c = none_is_found (IsInTheWay c.args.self.now c.args.transaction.0 c.args.footprint.now) c.clash_with_several.result c.clash_with_several.ensures
