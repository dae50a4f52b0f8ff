-- One of the others has one less, or the first has, or the next one is the first.
use Rattle.std.proofs.Common.{◌≡◌, ◌==◌, ◌-◌, ◌+◌, sym, subst, ◌∙◌, arith}
use Rattle.cg_locks.specs.Holders.{held_by, one}
use Rattle.cg_locks.proofs.Firsts.{are_left, are_put, count_first, count_other, last_less, one_less, others_left, others_less, put_first, rest_list, some_held, without_first}
use Rattle.cg_locks.proofs.holders.Holders.remove.Goals as goal
use Rattle.cg_locks.proofs.holders.Holders.remove.Goals.{then-left-gt0, else-left-gt0}

pub remove_in-requires-clause-there : goal.remove_in-requires-clause-there
remove_in-requires-clause-there c =
    let count = count_other c.self.inside.first c.self.inside.times c.self.inside.others.items c.self.invariant c.args.self.now c.self.view_is c.args.transaction.0 c.if-self-transaction.true in
    omega (arith, count, c.requires)

pub invariant_of-self : goal.invariant_of-self
invariant_of-self c =
    others_left c.self.inside.first c.self.inside.times c.self.inside.others.items c.self.invariant c.args.self.now c.self.view_is c.args.transaction.0 c.requires c.if-self-transaction.true
    c.remove_in.result c.remove_in.new.entries.items c.remove_in.ensures.less c.remove_in.ensures.gone

pub returns-then-self-transaction-clause-less : goal.returns-then-self-transaction-clause-less
returns-then-self-transaction-clause-less c =
    let count = count_other c.self.inside.first c.self.inside.times c.self.inside.others.items c.self.invariant c.args.self.now c.self.view_is c.args.transaction.0 c.if-self-transaction.true in
    others_less c.self.inside.first c.self.inside.times c.self.inside.others.items c.self.invariant c.args.self.now c.self.view_is c.args.transaction.0 c.requires c.if-self-transaction.true
    c.remove_in.result c.remove_in.new.entries.items c.remove_in.ensures.less c.remove_in.ensures.gone (c.remove_in.ensures.left ∙ count)

pub returns-then-self-transaction-clause-left : goal.returns-then-self-transaction-clause-left
returns-then-self-transaction-clause-left c =
    c.remove_in.ensures.left ∙ count_other c.self.inside.first c.self.inside.times c.self.inside.others.items c.self.invariant c.args.self.now c.self.view_is c.args.transaction.0 c.if-self-transaction.true

pub overflow_sub-left : goal.overflow_sub-left
overflow_sub-left c =
    let count = count_first c.self.inside.first c.self.inside.times c.self.inside.others.items c.self.invariant c.args.self.now c.self.view_is c.args.transaction.0 c.if-self-transaction.false in
    omega (arith, count, c.requires)

pub invariant_of-self-then-left-gt0 : goal.invariant_of-self-then-left-gt0
invariant_of-self-then-left-gt0 c =
    let f = c.self.inside.first in let n = c.self.inside.times in let es = c.self.inside.others.items in let h = c.self.invariant in let C = c.args.self.now in let t = c.args.transaction.0 in
    are_put f n es h C c.self.view_is t f (n - 1) es (n - 1) (put_first f n es h C c.self.view_is t (some_held f n es h C c.self.view_is t c.requires) c.if-self-transaction.false (n - 1) c.if-left-gt0.true) (omega (arith, c.if-left-gt0.true)) c.if-left-gt0.true

pub take_first-requires : goal.take_first-requires
take_first-requires c = rest_list c.self.inside.first c.self.inside.times c.self.inside.others.items c.self.invariant

pub invariant_of-self-else-left-gt0 : goal.invariant_of-self-else-left-gt0
invariant_of-self-else-left-gt0 c =
    let f = c.self.inside.first in let n = c.self.inside.times in let es = c.self.inside.others.items in let h = c.self.invariant in let C = c.args.self.now in let t = c.args.transaction.0 in
    are_left f n es h C c.self.view_is t c.take_first.result.0 c.take_first.result.1 c.take_first.new.entries.items
    (c.take_first.ensures.all ∙ without_first f n es h C c.self.view_is t (some_held f n es h C c.self.view_is t c.requires) c.if-self-transaction.false) c.take_first.ensures.alone

pub returns-clause-less : goal.returns-clause-less
returns-clause-less c = λ u.
    let f = c.self.inside.first in let n = c.self.inside.times in let es = c.self.inside.others.items in let h = c.self.invariant in let C = c.args.self.now in let t = c.args.transaction.0 in
    let count = count_first f n es h C c.self.view_is t c.if-self-transaction.false in
    let some = some_held f n es h C c.self.view_is t c.requires in
    elim c.if-left-gt0.branch [
      | then-left-gt0 w ↦ subst (λ D. held_by C u ≡ held_by D u + one (u == t)) (sym w.self-is)
          (one_less f n es h C c.self.view_is t f (n - 1) es (n - 1) (put_first f n es h C c.self.view_is t some c.if-self-transaction.false (n - 1) w.if-left-gt0.true) (omega (arith, count, c.requires)) u)
      | else-left-gt0 w ↦ subst (λ D. held_by C u ≡ held_by D u + one (u == t)) (sym w.self-is)
          (last_less f n es h C c.self.view_is t w.take_first.result.0 w.take_first.result.1 w.take_first.new.entries.items
          (w.take_first.ensures.all ∙ without_first f n es h C c.self.view_is t some c.if-self-transaction.false) (omega (arith, count, c.requires, w.if-left-gt0.false)) u)
    ]

pub returns-clause-left : goal.returns-clause-left
returns-clause-left c =
    let count = count_first c.self.inside.first c.self.inside.times c.self.inside.others.items c.self.invariant c.args.self.now c.self.view_is c.args.transaction.0 c.if-self-transaction.false in
    omega (arith, count, c.requires)
