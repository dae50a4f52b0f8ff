-- There are none where no group has a limit.
use Rattle.std.proofs.Common.{◌≡◌, ◌∷◌, IfOk, sym, subst}
use Rattle.cg_model.specs.Footprint as model
use Rattle.cg_locks.proofs.Counting.{none_counted}
use Rattle.cg_locks.proofs.footprint.with_counts.Goals as goal

pub returns-then-not-may_limit : goal.returns-then-not-may_limit
returns-then-not-may_limit c =
    subst (λ l. IfOk c.of_change.result (λ f. f ≡ model.X c.args.path.now ∷ l)) (sym (none_counted c.args.tree.now.tree (c.may_limit.ensures c.if-not-may_limit.true) c.args.path.now)) c.of_change.ensures
