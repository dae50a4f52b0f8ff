-- One of the others has one less, or the first has, or the next one is the first.
use Rattle.std.proofs.Common.{◌-◌, refl, sym, subst, ◌∙◌, arith}
use Rattle.cg_locks.specs.FirstsAndOthers.{others_in}
use Rattle.cg_locks.specs.Held.{part_of, IsHeldMore}
use Rattle.cg_locks.proofs.Firsts.{are_left, are_put, count_first, count_other, last_less, one_less, others_left, others_less, put_first, rest_list, some_held, without_first}
use Rattle.cg_locks.proofs.HeldParts.{are_holders, as_seen, least_put, less_put, others_put, part_sorted, parts_put}
use Rattle.cg_locks.proofs.held.Held.remove.Goals as goal
use Rattle.cg_locks.proofs.held.Held.remove.Goals.{then-left-gt0, else-left-gt0}

pub remove_in-requires-clause-sorted : goal.remove_in-requires-clause-sorted
remove_in-requires-clause-sorted c = part_sorted c.args.part c.self.inside.firsts c.self.inside.others.items c.self.invariant c.self.inside.others.items refl

pub remove_in-requires-clause-there : goal.remove_in-requires-clause-there
remove_in-requires-clause-there c =
    let s = c.args.part in let F = c.self.inside.firsts in let es = c.self.inside.others.items in let H = c.self.invariant in let V = c.args.self.now in let t = c.args.transaction.0 in
    let x = c.get-first.result in let is = c.get-first.ensures in let os = others_in s es in
    let h = are_holders s F es H x is in let view = as_seen s F es H x is V c.self.view_is in
    let count = count_other x.holder x.times os h (part_of s V) view t c.if-first-transaction.true in
    omega (arith, count, c.requires)

pub invariant_of-self : goal.invariant_of-self
invariant_of-self c =
    let s = c.args.part in let F = c.self.inside.firsts in let es = c.self.inside.others.items in let H = c.self.invariant in let V = c.args.self.now in let t = c.args.transaction.0 in
    let x = c.get-first.result in let is = c.get-first.ensures in let os = others_in s es in
    let h = are_holders s F es H x is in let view = as_seen s F es H x is V c.self.view_is in
    let es' = c.remove_in.new.others.items in let fs = others_in s es' in
    parts_put s F es H F es' x.holder x.times fs (others_put s F es H x is es' c.remove_in.ensures.apart)
    (others_left x.holder x.times os h (part_of s V) view t c.requires c.if-first-transaction.true c.remove_in.result fs c.remove_in.ensures.less c.remove_in.ensures.gone)

pub returns-then-first-transaction-clause-less : goal.returns-then-first-transaction-clause-less
returns-then-first-transaction-clause-less c =
    let s = c.args.part in let F = c.self.inside.firsts in let es = c.self.inside.others.items in let H = c.self.invariant in let V = c.args.self.now in let t = c.args.transaction.0 in
    let x = c.get-first.result in let is = c.get-first.ensures in let os = others_in s es in
    let h = are_holders s F es H x is in let view = as_seen s F es H x is V c.self.view_is in
    let es' = c.remove_in.new.others.items in let fs = others_in s es' in
    less_put s F es H F es' x.holder x.times fs (others_put s F es H x is es' c.remove_in.ensures.apart) V c.self.view_is t
    (others_less x.holder x.times os h (part_of s V) view t c.requires c.if-first-transaction.true c.remove_in.result fs c.remove_in.ensures.less c.remove_in.ensures.gone
    (c.remove_in.ensures.left ∙ count_other x.holder x.times os h (part_of s V) view t c.if-first-transaction.true))

pub returns-then-first-transaction-clause-left : goal.returns-then-first-transaction-clause-left
returns-then-first-transaction-clause-left c =
    let s = c.args.part in let F = c.self.inside.firsts in let es = c.self.inside.others.items in let H = c.self.invariant in let V = c.args.self.now in let t = c.args.transaction.0 in
    let x = c.get-first.result in let is = c.get-first.ensures in let os = others_in s es in
    let h = are_holders s F es H x is in let view = as_seen s F es H x is V c.self.view_is in
    c.remove_in.ensures.left ∙ count_other x.holder x.times os h (part_of s V) view t c.if-first-transaction.true

pub overflow_sub-left : goal.overflow_sub-left
overflow_sub-left c =
    let s = c.args.part in let F = c.self.inside.firsts in let es = c.self.inside.others.items in let H = c.self.invariant in let V = c.args.self.now in let t = c.args.transaction.0 in
    let x = c.get-first.result in let is = c.get-first.ensures in let os = others_in s es in
    let h = are_holders s F es H x is in let view = as_seen s F es H x is V c.self.view_is in
    let count = count_first x.holder x.times os h (part_of s V) view t c.if-first-transaction.false in
    omega (arith, count, c.requires)

pub invariant_of-self-then-left-gt0 : goal.invariant_of-self-then-left-gt0
invariant_of-self-then-left-gt0 c =
    let s = c.args.part in let F = c.self.inside.firsts in let es = c.self.inside.others.items in let H = c.self.invariant in let V = c.args.self.now in let t = c.args.transaction.0 in
    let x = c.get-first.result in let is = c.get-first.ensures in let os = others_in s es in
    let h = are_holders s F es H x is in let view = as_seen s F es H x is V c.self.view_is in
    let m = x.times - 1 in
    let put = least_put s F es c.put.new.self es x.holder m os c.put.ensures refl (λ r ne. refl) in
    parts_put s F es H c.put.new.self es x.holder m os put
    (are_put x.holder x.times os h (part_of s V) view t x.holder m os m (put_first x.holder x.times os h (part_of s V) view t (some_held x.holder x.times os h (part_of s V) view t c.requires) c.if-first-transaction.false m c.if-left-gt0.true) (omega (arith, c.if-left-gt0.true)) c.if-left-gt0.true)

pub take_least-holder-requires : goal.take_least-holder-requires
take_least-holder-requires c =
    let x = c.get-first.result in
    rest_list x.holder x.times (others_in c.args.part c.self.inside.others.items) (are_holders c.args.part c.self.inside.firsts c.self.inside.others.items c.self.invariant x c.get-first.ensures)

pub invariant_of-self-else-left-gt0 : goal.invariant_of-self-else-left-gt0
invariant_of-self-else-left-gt0 c =
    let s = c.args.part in let F = c.self.inside.firsts in let es = c.self.inside.others.items in let H = c.self.invariant in let V = c.args.self.now in let t = c.args.transaction.0 in
    let x = c.get-first.result in let is = c.get-first.ensures in let os = others_in s es in
    let h = are_holders s F es H x is in let view = as_seen s F es H x is V c.self.view_is in
    let some = some_held x.holder x.times os h (part_of s V) view t c.requires in
    let g = c.take_least-holder.result.0 in let m = c.take_least-holder.result.1 in let es' = c.take_least-holder.new.others.items in let fs = others_in s es' in
    let put = least_put s F es c.put-else-left-gt0.new.self es' g m fs c.put-else-left-gt0.ensures refl c.take_least-holder.ensures.apart in
    parts_put s F es H c.put-else-left-gt0.new.self es' g m fs put
    (are_left x.holder x.times os h (part_of s V) view t g m fs (c.take_least-holder.ensures.all ∙ without_first x.holder x.times os h (part_of s V) view t some c.if-first-transaction.false) c.take_least-holder.ensures.alone)

pub returns-clause-less : goal.returns-clause-less
returns-clause-less c =
    let s = c.args.part in let F = c.self.inside.firsts in let es = c.self.inside.others.items in let H = c.self.invariant in let V = c.args.self.now in let t = c.args.transaction.0 in
    let x = c.get-first.result in let is = c.get-first.ensures in let os = others_in s es in
    let h = are_holders s F es H x is in let view = as_seen s F es H x is V c.self.view_is in
    let count = count_first x.holder x.times os h (part_of s V) view t c.if-first-transaction.false in
    let some = some_held x.holder x.times os h (part_of s V) view t c.requires in
    elim c.if-left-gt0.branch [
      | then-left-gt0 w ↦ subst (λ D. IsHeldMore D s t V) (sym w.self-is)
          (less_put s F es H w.put.new.self es x.holder (x.times - 1) os (least_put s F es w.put.new.self es x.holder (x.times - 1) os w.put.ensures refl (λ r ne. refl)) V c.self.view_is t
          (one_less x.holder x.times os h (part_of s V) view t x.holder (x.times - 1) os (x.times - 1) (put_first x.holder x.times os h (part_of s V) view t some c.if-first-transaction.false (x.times - 1) w.if-left-gt0.true) (omega (arith, count, c.requires))))
      | else-left-gt0 w ↦
          let g = w.take_least-holder.result.0 in let m = w.take_least-holder.result.1 in let es' = w.take_least-holder.new.others.items in let fs = others_in s es' in
          subst (λ D. IsHeldMore D s t V) (sym w.self-is)
          (less_put s F es H w.put-else-left-gt0.new.self es' g m fs (least_put s F es w.put-else-left-gt0.new.self es' g m fs w.put-else-left-gt0.ensures refl w.take_least-holder.ensures.apart) V c.self.view_is t
          (last_less x.holder x.times os h (part_of s V) view t g m fs (w.take_least-holder.ensures.all ∙ without_first x.holder x.times os h (part_of s V) view t some c.if-first-transaction.false) (omega (arith, count, c.requires, w.if-left-gt0.false))))
    ]

pub returns-clause-left : goal.returns-clause-left
returns-clause-left c =
    let s = c.args.part in let F = c.self.inside.firsts in let es = c.self.inside.others.items in let H = c.self.invariant in let V = c.args.self.now in let t = c.args.transaction.0 in
    let x = c.get-first.result in let is = c.get-first.ensures in let os = others_in s es in
    let h = are_holders s F es H x is in let view = as_seen s F es H x is V c.self.view_is in
    let count = count_first x.holder x.times os h (part_of s V) view t c.if-first-transaction.false in
    omega (arith, count, c.requires)
