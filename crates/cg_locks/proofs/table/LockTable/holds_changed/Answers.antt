use Rattle.std.proofs.Common.{inl, inr, sym, ◌∙◌}
use Rattle.std.proofs.lemmas.Bool.{false≢true}
use Rattle.cg_model.specs.Footprint.{X}
use Rattle.cg_locks.proofs.Boths.{by_first, by_one, by_second}
use Rattle.cg_locks.proofs.table.LockTable.holds_changed.Goals as goal

pub returns-then-holds_changed : goal.returns-then-holds_changed
returns-then-holds_changed c = (
  λ yes. by_first c.self.inside.sole c.self.inside.shared c.args.self.now c.self.view_is c.args.transaction.0 (X c.args.path.now) (c.holds_changed.ensures.0 yes),
  λ _. c.if-holds_changed.true,
)

pub returns-else-holds_changed : goal.returns-else-holds_changed
returns-else-holds_changed c =
    let G = c.self.inside.sole in
    let H = c.self.inside.shared in
    let t = c.args.transaction.0 in (
      λ yes. by_second G H c.args.self.now c.self.view_is t (X c.args.path.now) (c.holds_changed-else-holds_changed.ensures.0 yes),
      λ low. elim (by_one G H c.args.self.now c.self.view_is t (X c.args.path.now) low) [
        | inl l ↦ absurd (false≢true (sym c.if-holds_changed.false ∙ c.holds_changed.ensures.1 l))
        | inr l ↦ c.holds_changed-else-holds_changed.ensures.1 l
      ],
    )
