-- What was gone over, and what is left, is what was left.
use Rattle.std.proofs.Common.{◌≡◌, ◌++◌, map, take}
use Rattle.cg_view.specs.Committed.{meant}
use Rattle.cg_view.specs.Walks.{left}
use Rattle.cg_view.proofs.walk.Walk.goes_by.Given as goal

abbrev pub invariant-loop-operation : goal.invariant-loop-operation
invariant-loop-operation l = left l.fn.self ≡ map meant (take l.operation-index l.operations) ++ left l.self
