-- The first has one more, or is new, or one of the others has.
use Rattle.std.proofs.Common.{◌≡◌, ◌<◌, ◌∷◌, refl, ap, ◌∙◌, arith}
use Rattle.cg_locks.specs.FirstsAndOthers.{others_in}
use Rattle.cg_locks.specs.Held.{part_of}
use Rattle.cg_locks.proofs.Firsts.{are_put, count_before, count_first, count_other, none_held, one_more, put_after, put_before, put_first, put_new, rest_list}
use Rattle.cg_locks.proofs.HeldParts.{are_holders, as_seen, least_put, more_put, others_put, parts_put}
use Rattle.cg_locks.proofs.Others.{new_in_other, of_entry}
use Rattle.cg_locks.proofs.held.Held.add.Goals as goal

pub invariant_of-self : goal.invariant_of-self
invariant_of-self c =
    let s = c.args.part in let F = c.self.inside.firsts in let es = c.self.inside.others.items in let H = c.self.invariant in let V = c.args.self.now in let t = c.args.transaction.0 in
    let x = c.get-first.result in let is = c.get-first.ensures in let os = others_in s es in
    let h = are_holders s F es H x is in let view = as_seen s F es H x is V c.self.view_is in
    let put = least_put s F es c.put.new.self es t 1 os c.put.ensures refl (λ r ne. refl) in
    parts_put s F es H c.put.new.self es t 1 os put
    (are_put x.holder x.times os h (part_of s V) view t t 1 os 1 (put_new x.holder x.times os h (part_of s V) view t c.if-first-eq0.true) (omega arith) (omega arith))

pub returns-then-first-eq0-clause-ok : goal.returns-then-first-eq0-clause-ok
returns-then-first-eq0-clause-ok c =
    let s = c.args.part in let F = c.self.inside.firsts in let es = c.self.inside.others.items in let H = c.self.invariant in let V = c.args.self.now in let t = c.args.transaction.0 in
    let x = c.get-first.result in let is = c.get-first.ensures in let os = others_in s es in
    let h = are_holders s F es H x is in let view = as_seen s F es H x is V c.self.view_is in
    let put = least_put s F es c.put.new.self es t 1 os c.put.ensures refl (λ r ne. refl) in
    let none = none_held x.holder x.times os h (part_of s V) view t c.if-first-eq0.true in
    more_put s F es H c.put.new.self es t 1 os put V c.self.view_is t
    (one_more x.holder x.times os h (part_of s V) view t t 1 os 1 (put_new x.holder x.times os h (part_of s V) view t c.if-first-eq0.true) (omega (arith, none)))

pub returns-then-first-eq0-clause-count : goal.returns-then-first-eq0-clause-count
returns-then-first-eq0-clause-count c =
    let s = c.args.part in let F = c.self.inside.firsts in let es = c.self.inside.others.items in let H = c.self.invariant in let V = c.args.self.now in let t = c.args.transaction.0 in
    let x = c.get-first.result in let is = c.get-first.ensures in let os = others_in s es in
    let h = are_holders s F es H x is in let view = as_seen s F es H x is V c.self.view_is in
    let none = none_held x.holder x.times os h (part_of s V) view t c.if-first-eq0.true in
    omega (arith, none)

pub invariant_of-self-then-first-transaction : goal.invariant_of-self-then-first-transaction
invariant_of-self-then-first-transaction c =
    let s = c.args.part in let F = c.self.inside.firsts in let es = c.self.inside.others.items in let H = c.self.invariant in let V = c.args.self.now in let t = c.args.transaction.0 in
    let x = c.get-first.result in let is = c.get-first.ensures in let os = others_in s es in
    let h = are_holders s F es H x is in let view = as_seen s F es H x is V c.self.view_is in
    let m = c.in-Some.more in
    let put = least_put s F es c.put-then-first-transaction.new.self es x.holder m os c.put-then-first-transaction.ensures refl (λ r ne. refl) in
    parts_put s F es H c.put-then-first-transaction.new.self es x.holder m os put
    (are_put x.holder x.times os h (part_of s V) view t x.holder m os m (put_first x.holder x.times os h (part_of s V) view t c.if-first-eq0.false c.if-first-transaction.true m (omega (arith, c.in-Some.ensures))) (omega (arith, c.in-Some.ensures)) (omega (arith, c.in-Some.ensures)))

pub returns-then-first-transaction-clause-ok : goal.returns-then-first-transaction-clause-ok
returns-then-first-transaction-clause-ok c =
    let s = c.args.part in let F = c.self.inside.firsts in let es = c.self.inside.others.items in let H = c.self.invariant in let V = c.args.self.now in let t = c.args.transaction.0 in
    let x = c.get-first.result in let is = c.get-first.ensures in let os = others_in s es in
    let h = are_holders s F es H x is in let view = as_seen s F es H x is V c.self.view_is in
    let m = c.in-Some.more in
    let put = least_put s F es c.put-then-first-transaction.new.self es x.holder m os c.put-then-first-transaction.ensures refl (λ r ne. refl) in
    let count = count_first x.holder x.times os h (part_of s V) view t c.if-first-transaction.true in
    more_put s F es H c.put-then-first-transaction.new.self es x.holder m os put V c.self.view_is t
    (one_more x.holder x.times os h (part_of s V) view t x.holder m os m (put_first x.holder x.times os h (part_of s V) view t c.if-first-eq0.false c.if-first-transaction.true m (omega (arith, c.in-Some.ensures))) (omega (arith, c.in-Some.ensures, count)))

pub returns-then-first-transaction-clause-count : goal.returns-then-first-transaction-clause-count
returns-then-first-transaction-clause-count c =
    let s = c.args.part in let F = c.self.inside.firsts in let es = c.self.inside.others.items in let H = c.self.invariant in let V = c.args.self.now in let t = c.args.transaction.0 in
    let x = c.get-first.result in let is = c.get-first.ensures in let os = others_in s es in
    let h = are_holders s F es H x is in let view = as_seen s F es H x is V c.self.view_is in
    let count = count_first x.holder x.times os h (part_of s V) view t c.if-first-transaction.true in
    omega (arith, c.in-Some.ensures, count)

pub add_in-requires : goal.add_in-requires
add_in-requires c =
    let x = c.get-first.result in
    rest_list x.holder x.times (others_in c.args.part c.self.inside.others.items) (are_holders c.args.part c.self.inside.firsts c.self.inside.others.items c.self.invariant x c.get-first.ensures)

pub invariant_of-self-then-first-transaction-2 : goal.invariant_of-self-then-first-transaction-2
invariant_of-self-then-first-transaction-2 c =
    let s = c.args.part in let F = c.self.inside.firsts in let es = c.self.inside.others.items in let H = c.self.invariant in let V = c.args.self.now in let t = c.args.transaction.0 in
    let x = c.get-first.result in let is = c.get-first.ensures in let os = others_in s es in
    let h = are_holders s F es H x is in let view = as_seen s F es H x is V c.self.view_is in
    let m = c.in_ok-more.more in let es' = c.add_in.new.others.items in let fs = others_in s es' in
    parts_put s F es H F es' x.holder x.times fs (others_put s F es H x is es' c.add_in.ensures.apart)
    (are_put x.holder x.times os h (part_of s V) view t x.holder x.times fs m (put_after x.holder x.times os h (part_of s V) view t c.if-first-eq0.false c.if-first-transaction-2.true m fs c.in_ok-more.ensures.ok) c.if-first-eq0.false (omega (arith, c.in_ok-more.ensures.count)))

pub returns-then-first-transaction-2-clause-ok : goal.returns-then-first-transaction-2-clause-ok
returns-then-first-transaction-2-clause-ok c =
    let s = c.args.part in let F = c.self.inside.firsts in let es = c.self.inside.others.items in let H = c.self.invariant in let V = c.args.self.now in let t = c.args.transaction.0 in
    let x = c.get-first.result in let is = c.get-first.ensures in let os = others_in s es in
    let h = are_holders s F es H x is in let view = as_seen s F es H x is V c.self.view_is in
    let m = c.in_ok-more.more in let es' = c.add_in.new.others.items in let fs = others_in s es' in
    let count = count_other x.holder x.times os h (part_of s V) view t c.if-first-transaction.false in
    more_put s F es H F es' x.holder x.times fs (others_put s F es H x is es' c.add_in.ensures.apart) V c.self.view_is t
    (one_more x.holder x.times os h (part_of s V) view t x.holder x.times fs m (put_after x.holder x.times os h (part_of s V) view t c.if-first-eq0.false c.if-first-transaction-2.true m fs c.in_ok-more.ensures.ok) (omega (arith, c.in_ok-more.ensures.count, count)))

pub returns-then-first-transaction-2-clause-count : goal.returns-then-first-transaction-2-clause-count
returns-then-first-transaction-2-clause-count c =
    let s = c.args.part in let F = c.self.inside.firsts in let es = c.self.inside.others.items in let H = c.self.invariant in let V = c.args.self.now in let t = c.args.transaction.0 in
    let x = c.get-first.result in let is = c.get-first.ensures in let os = others_in s es in
    let h = are_holders s F es H x is in let view = as_seen s F es H x is V c.self.view_is in
    let count = count_other x.holder x.times os h (part_of s V) view t c.if-first-transaction.false in
    omega (arith, c.in_ok-more.ensures.count, count)

pub invariant_of-self-2 : goal.invariant_of-self-2
invariant_of-self-2 c =
    let s = c.args.part in let F = c.self.inside.firsts in let es = c.self.inside.others.items in let H = c.self.invariant in let V = c.args.self.now in let t = c.args.transaction.0 in
    let x = c.get-first.result in let is = c.get-first.ensures in let os = others_in s es in
    let h = are_holders s F es H x is in let view = as_seen s F es H x is V c.self.view_is in
    let low : t < x.holder = omega (arith, c.if-first-transaction.false, c.if-first-transaction-2.false) in
    let es' = c.insert.new.self.items in let fs = others_in s es' in
    let front : fs ≡ (x.holder, x.times) ∷ os = ap (others_in s) c.in_ok-insert.ensures.items ∙ of_entry s x.holder x.times es in
    let put = least_put s F es c.put-2.new.self es' t 1 fs c.put-2.ensures refl (λ r ne. ap (others_in r) c.in_ok-insert.ensures.items ∙ new_in_other r s ne es 0 x.holder x.times) in
    parts_put s F es H c.put-2.new.self es' t 1 fs put (are_put x.holder x.times os h (part_of s V) view t t 1 fs 1 (put_before x.holder x.times os h (part_of s V) view t c.if-first-eq0.false low fs front) (omega arith) (omega arith))

pub returns-clause-ok : goal.returns-clause-ok
returns-clause-ok c =
    let s = c.args.part in let F = c.self.inside.firsts in let es = c.self.inside.others.items in let H = c.self.invariant in let V = c.args.self.now in let t = c.args.transaction.0 in
    let x = c.get-first.result in let is = c.get-first.ensures in let os = others_in s es in
    let h = are_holders s F es H x is in let view = as_seen s F es H x is V c.self.view_is in
    let low : t < x.holder = omega (arith, c.if-first-transaction.false, c.if-first-transaction-2.false) in
    let es' = c.insert.new.self.items in let fs = others_in s es' in
    let front : fs ≡ (x.holder, x.times) ∷ os = ap (others_in s) c.in_ok-insert.ensures.items ∙ of_entry s x.holder x.times es in
    let put = least_put s F es c.put-2.new.self es' t 1 fs c.put-2.ensures refl (λ r ne. ap (others_in r) c.in_ok-insert.ensures.items ∙ new_in_other r s ne es 0 x.holder x.times) in
    let none = count_before x.holder x.times os h (part_of s V) view t c.if-first-eq0.false low in
    more_put s F es H c.put-2.new.self es' t 1 fs put V c.self.view_is t (one_more x.holder x.times os h (part_of s V) view t t 1 fs 1 (put_before x.holder x.times os h (part_of s V) view t c.if-first-eq0.false low fs front) (omega (arith, none)))

pub returns-clause-count : goal.returns-clause-count
returns-clause-count c =
    let s = c.args.part in let F = c.self.inside.firsts in let es = c.self.inside.others.items in let H = c.self.invariant in let V = c.args.self.now in let t = c.args.transaction.0 in
    let x = c.get-first.result in let is = c.get-first.ensures in let os = others_in s es in
    let h = are_holders s F es H x is in let view = as_seen s F es H x is V c.self.view_is in
    let low : t < x.holder = omega (arith, c.if-first-transaction.false, c.if-first-transaction-2.false) in
    let none = count_before x.holder x.times os h (part_of s V) view t c.if-first-eq0.false low in
    omega (arith, none)
