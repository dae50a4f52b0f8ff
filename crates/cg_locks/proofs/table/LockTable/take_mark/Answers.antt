-- It comes to those that stand apart or to the others.
use Rattle.std.proofs.Common.{◌≡◌, refl, ap, ◌∙◌}
use Rattle.std.proofs.lemmas.Result.{on_ok_weaker}
use Rattle.cg_locks.specs.Both.{both}
use Rattle.cg_locks.proofs.Boths.{more_by_first, more_by_second}
use Rattle.cg_locks.proofs.table.LockTable.take_mark.Goals as goal
use Rattle.cg_locks.proofs.table.LockTable.take_mark.Goals.{then-self+in_ok-place+in_default, else-self}

pub returns-in-Some-clause-ok : goal.returns-in-Some-clause-ok
returns-in-Some-clause-ok c =
    more_by_first c.self.inside.sole c.self.inside.shared c.add.new.self c.self.inside.shared c.args.self.now _ c.self.view_is refl _ (rw c.in-Some.is at c.in_ok-place.ensures.added) refl

-- where it isn't added apart, all is as it was
as_before : (c : goal.After-take_mark) → both c.if-self.self-inside.sole c.if-self.self-inside.shared ≡ c.args.self.now
as_before c = elim c.if-self.branch [
  | then-self+in_ok-place+in_default w ↦ ap (λ i. both i.sole i.shared) w.self-inside-is ∙ ap (λ G. both G c.self.inside.shared) (rw w.in_default.is at w.in_ok-place.ensures.left) ∙ c.self.view_is
  | else-self w ↦ ap (λ i. both i.sole i.shared) w.self-inside-is ∙ c.self.view_is
]

pub returns-clause-ok : goal.returns-clause-ok
returns-clause-ok c =
    let now = c.if-self.self-inside in
    on_ok_weaker c.take_mark.result (λ come. more_by_second now.sole now.shared now.sole c.take_mark.new.self c.args.self.now _ (as_before c) refl _ refl come) c.take_mark.ensures.ok
