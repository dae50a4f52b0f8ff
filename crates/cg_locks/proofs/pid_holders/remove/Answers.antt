-- The entry has one holding less.
use Rattle.std.proofs.Common.{◌+◌, ◌<◌, ◌==◌, ◌&&◌, IsSome, Some, refl, sym, ap, subst, ◌∙◌, arith}
use Rattle.std.specs.Ordering.{nat_cmp}
use Rattle.cg_maps.specs.FiniteMap.{from_entries}
use Rattle.cg_locks.specs.Holders.{held_if, one}
use Rattle.cg_locks.proofs.Pids.{answers_set, for_one_less, looked_up}
use Rattle.cg_locks.proofs.pid_holders.remove.Goals as goal
use Rattle.cg_locks.proofs.pid_holders.remove.Goals.{in-Some, in_default}

pub remove-requires : goal.remove-requires
remove-requires c = subst (λ r. 0 < held_if r c.args.transaction.0) (looked_up c.args.holders.now.entries c.args.pid ∙ sym c.in-Some.ensures.value) c.requires

pub returns : goal.returns
returns c = λ k u. elim c.match-get_mut.branch [
  | in-Some w ↦ for_one_less c.args.holders.now.entries c.match-get_mut.holders.entries c.args.pid (Some w.remove.new.self)
      (ap (λ m. from_entries nat_cmp m.entries) w.holders-is ∙ answers_set c.args.holders.now.entries _ c.args.pid (Some w.remove.new.self) ((c.get_mut.follows.holds w.remove.new.self).3 (subst IsSome w.in-Some.ensures.value refl)).0)
      c.args.transaction.0 (λ v. ap (λ r. held_if r v) (looked_up c.args.holders.now.entries c.args.pid ∙ sym w.in-Some.ensures.value) ∙ w.remove.ensures.less v) k u
      ∙ ap (λ n. n + one ((k == c.args.pid) && (u == c.args.transaction.0))) (sym (c.drop_empty.ensures k u))
  | in_default w ↦ (let none = ap (λ r. held_if r c.args.transaction.0) (looked_up c.args.holders.now.entries c.args.pid ∙ sym w.in_default.ensures.value) in absurd (omega (arith, none, c.requires)))
]
