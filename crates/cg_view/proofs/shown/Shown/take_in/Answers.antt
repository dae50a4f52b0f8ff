-- There are no more commits than operations.
use Rattle.std.proofs.Common.{◌≤◌, [], ◌∷◌, arith}
use Rattle.cg_view.specs.Operations.{commits_in}
use Rattle.cg_view.proofs.Operations.{few_commits}
use Rattle.cg_view.proofs.shown.Shown.take_in.Goals as goal

pub overflow_add-self : goal.overflow_add-self
overflow_add-self c =
    let shown = c.args.self.now in
    let few = few_commits shown.operations.items in
    let one : commits_in (c.args.operation.now ∷ []) ≤ 1 = few_commits (c.args.operation.now ∷ []) in
    omega (arith, few, one, shown.counted, c.commits.ensures, shown.operations.ok, shown.operations.small)
