-- It goes from those that stand apart, or else from the others.
use Rattle.std.proofs.Common.{◌≡◌, inl, inr, refl, sym, arith}
use Rattle.cg_locks.specs.Holdings.{holdings}
use Rattle.cg_locks.specs.Meaning.{mark_of}
use Rattle.cg_locks.proofs.Boths.{by_one, more_by_first, more_by_second}
use Rattle.cg_locks.proofs.table.LockTable.release_mark.Goals as goal

pub release_mark-requires : goal.release_mark-requires
release_mark-requires c =
    let none : holdings c.self.inside.sole c.args.transaction.0 (mark_of c.args.mark.now) ≡ 0 = c.remove.ensures.none c.if-not-remove.true in
    elim (by_one c.self.inside.sole c.self.inside.shared c.args.self.now c.self.view_is c.args.transaction.0 (mark_of c.args.mark.now) c.requires) [
      | inl l ↦ absurd (omega (arith, l, none))
      | inr l ↦ l
    ]

pub returns-then-not-remove : goal.returns-then-not-remove
returns-then-not-remove c =
    more_by_second c.remove.new.self c.release_mark.new.self c.self.inside.sole c.self.inside.shared _ c.args.self.now refl c.self.view_is _ (sym (c.remove.ensures.left c.if-not-remove.true)) c.release_mark.ensures

pub returns-else-not-remove : goal.returns-else-not-remove
returns-else-not-remove c = more_by_first c.remove.new.self c.self.inside.shared c.self.inside.sole c.self.inside.shared _ c.args.self.now refl c.self.view_is _ (c.remove.ensures.gone c.if-not-remove.false) refl
