-- None so far has the number.
use Rattle.std.proofs.Common.{◌≡◌, ◌==◌, drop, map}
use Rattle.std.specs.List.{find}
use Rattle.cg_core.specs.InTheWay.{with_number}
use Rattle.cg_core.proofs.in_the_way.txn_with.Given as goal

abbrev pub invariant-loop-index : goal.invariant-loop-index
invariant-loop-index l = find (λ x. x.number == l.fn.number.0) (drop l.index (map (λ x. x.1) l.fn.transactions)) ≡ with_number l.fn.number.0 l.fn.transactions
