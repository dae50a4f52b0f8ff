use Rattle.std.proofs.Common.{◌+◌, ◌≤◌, length, arith}
use Rattle.cg_core.proofs.ReturningParts.{few}
use Rattle.cg_core.proofs.machine.Core.is_full.Goals as goal

pub overflow_add-result : goal.overflow_add-result
overflow_add-result c = let within : length c.self.inside.history.0 + c.self.inside.history.1 ≤ 1048576 = few c.self.invariant in omega (arith, within, c.len.ensures, c.reserved.ensures)

pub overflow_add-result-2 : goal.overflow_add-result-2
overflow_add-result-2 c = let within : length c.self.inside.history.0 + c.self.inside.history.1 ≤ 1048576 = few c.self.invariant in omega (arith, within, c.len.ensures, c.reserved.ensures)
