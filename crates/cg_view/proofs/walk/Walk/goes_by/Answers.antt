-- Another operation comes next.
use Rattle.std.proofs.Common.{◌∷◌, ◌+◌, List, Option, map, drop, subst}
use Rattle.cg_model.specs.Command.{Command}
use Rattle.cg_view.specs.Committed.{meant}
use Rattle.cg_view.specs.Lent.{step_meant}
use Rattle.cg_view.specs.Operations.{StartsWith}
use Rattle.cg_view.specs.Walks.{left}
use Rattle.cg_view.proofs.Committed.{apart, first_is}
use Rattle.cg_view.proofs.walk.Walk.goes_by.Goals as goal

pub returns-in_default-clause-no : goal.returns-in_default-clause-no
returns-in_default-clause-no c =
    let later : List (Option Command) = map meant (drop (c.loop-operation.operation-index + 1) c.args.operations.now) in
    apart (left c.args.self.now) (left c.loop-operation.self) c.args.operations.now c.loop-operation.operation-index c.operation-item.result c.loop-operation-test.true c.operation-item.is c.loop-operation.invariant
    (λ h. c.if-is.ensures.no (first_is (step_meant c.in-Some.step) (meant c.operation-item.result) (left c.next.new.self) later (subst (λ l. StartsWith l (meant c.operation-item.result ∷ later)) c.in-Some.ensures.some h)))
