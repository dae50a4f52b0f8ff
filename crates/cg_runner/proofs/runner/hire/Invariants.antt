use Rattle.std.proofs.Common.{◌≡◌, vec_len}
use Rattle.std.specs.List.{AllByRecursion}
use Rattle.cg_runner.specs.Workers.{IsNew}
use Rattle.cg_runner.proofs.runner.hire.Given as goal

abbrev pub invariant-loop-seat : goal.invariant-loop-seat
invariant-loop-seat g l = (vec_len l.hired ≡ l.seat) × AllByRecursion IsNew l.hired.items
