-- The first has one more, or is new, or one of the others has.
use Rattle.std.proofs.Common.{◌<◌, arith}
use Rattle.cg_locks.proofs.Firsts.{are_put, count_before, count_first, count_other, none_held, one_more, put_after, put_before, put_first, put_new, rest_list}
use Rattle.cg_locks.proofs.holders.Holders.add.Goals as goal

pub invariant_of-self : goal.invariant_of-self
invariant_of-self c =
    let f = c.self.inside.first in let n = c.self.inside.times in let es = c.self.inside.others.items in let h = c.self.invariant in let C = c.args.self.now in let t = c.args.transaction.0 in
    are_put f n es h C c.self.view_is t t 1 es 1 (put_new f n es h C c.self.view_is t c.if-self-eq0.true) (omega arith) (omega arith)

pub returns-then-self-eq0-clause-ok : goal.returns-then-self-eq0-clause-ok
returns-then-self-eq0-clause-ok c =
    let f = c.self.inside.first in let n = c.self.inside.times in let es = c.self.inside.others.items in let h = c.self.invariant in let C = c.args.self.now in let t = c.args.transaction.0 in
    let none = none_held f n es h C c.self.view_is t c.if-self-eq0.true in
    one_more f n es h C c.self.view_is t t 1 es 1 (put_new f n es h C c.self.view_is t c.if-self-eq0.true) (omega (arith, none))

pub returns-then-self-eq0-clause-count : goal.returns-then-self-eq0-clause-count
returns-then-self-eq0-clause-count c =
    let none = none_held c.self.inside.first c.self.inside.times c.self.inside.others.items c.self.invariant c.args.self.now c.self.view_is c.args.transaction.0 c.if-self-eq0.true in
    omega (arith, none)

pub invariant_of-self-then-self-transaction : goal.invariant_of-self-then-self-transaction
invariant_of-self-then-self-transaction c =
    let f = c.self.inside.first in let n = c.self.inside.times in let es = c.self.inside.others.items in let h = c.self.invariant in let C = c.args.self.now in let t = c.args.transaction.0 in
    are_put f n es h C c.self.view_is t f c.in-Some.more es c.in-Some.more (put_first f n es h C c.self.view_is t c.if-self-eq0.false c.if-self-transaction.true c.in-Some.more (omega (arith, c.in-Some.ensures))) (omega (arith, c.in-Some.ensures)) (omega (arith, c.in-Some.ensures))

pub returns-then-self-transaction-clause-ok : goal.returns-then-self-transaction-clause-ok
returns-then-self-transaction-clause-ok c =
    let f = c.self.inside.first in let n = c.self.inside.times in let es = c.self.inside.others.items in let h = c.self.invariant in let C = c.args.self.now in let t = c.args.transaction.0 in
    let count = count_first f n es h C c.self.view_is t c.if-self-transaction.true in
    one_more f n es h C c.self.view_is t f c.in-Some.more es c.in-Some.more (put_first f n es h C c.self.view_is t c.if-self-eq0.false c.if-self-transaction.true c.in-Some.more (omega (arith, c.in-Some.ensures))) (omega (arith, c.in-Some.ensures, count))

pub returns-then-self-transaction-clause-count : goal.returns-then-self-transaction-clause-count
returns-then-self-transaction-clause-count c =
    let count = count_first c.self.inside.first c.self.inside.times c.self.inside.others.items c.self.invariant c.args.self.now c.self.view_is c.args.transaction.0 c.if-self-transaction.true in
    omega (arith, c.in-Some.ensures, count)

pub add_in-requires : goal.add_in-requires
add_in-requires c = rest_list c.self.inside.first c.self.inside.times c.self.inside.others.items c.self.invariant

pub invariant_of-self-then-self-transaction-2 : goal.invariant_of-self-then-self-transaction-2
invariant_of-self-then-self-transaction-2 c =
    let f = c.self.inside.first in let n = c.self.inside.times in let es = c.self.inside.others.items in let h = c.self.invariant in let C = c.args.self.now in let t = c.args.transaction.0 in
    are_put f n es h C c.self.view_is t f n c.add_in.new.entries.items c.in_ok-more.more (put_after f n es h C c.self.view_is t c.if-self-eq0.false c.if-self-transaction-2.true c.in_ok-more.more c.add_in.new.entries.items c.in_ok-more.ensures.ok) c.if-self-eq0.false
    (omega (arith, c.in_ok-more.ensures.count))

pub returns-then-self-transaction-2-clause-ok : goal.returns-then-self-transaction-2-clause-ok
returns-then-self-transaction-2-clause-ok c =
    let f = c.self.inside.first in let n = c.self.inside.times in let es = c.self.inside.others.items in let h = c.self.invariant in let C = c.args.self.now in let t = c.args.transaction.0 in
    let count = count_other f n es h C c.self.view_is t c.if-self-transaction.false in
    one_more f n es h C c.self.view_is t f n c.add_in.new.entries.items c.in_ok-more.more (put_after f n es h C c.self.view_is t c.if-self-eq0.false c.if-self-transaction-2.true c.in_ok-more.more c.add_in.new.entries.items c.in_ok-more.ensures.ok)
    (omega (arith, c.in_ok-more.ensures.count, count))

pub returns-then-self-transaction-2-clause-count : goal.returns-then-self-transaction-2-clause-count
returns-then-self-transaction-2-clause-count c =
    let count = count_other c.self.inside.first c.self.inside.times c.self.inside.others.items c.self.invariant c.args.self.now c.self.view_is c.args.transaction.0 c.if-self-transaction.false in
    omega (arith, c.in_ok-more.ensures.count, count)

pub invariant_of-self-2 : goal.invariant_of-self-2
invariant_of-self-2 c =
    let f = c.self.inside.first in let n = c.self.inside.times in let es = c.self.inside.others.items in let h = c.self.invariant in let C = c.args.self.now in let t = c.args.transaction.0 in
    let low : t < f = omega (arith, c.if-self-transaction.false, c.if-self-transaction-2.false) in
    are_put f n es h C c.self.view_is t t 1 c.insert.new.self.items 1 (put_before f n es h C c.self.view_is t c.if-self-eq0.false low c.insert.new.self.items c.in_ok-insert.ensures.items) (omega arith) (omega arith)

pub returns-clause-ok : goal.returns-clause-ok
returns-clause-ok c =
    let f = c.self.inside.first in let n = c.self.inside.times in let es = c.self.inside.others.items in let h = c.self.invariant in let C = c.args.self.now in let t = c.args.transaction.0 in
    let low : t < f = omega (arith, c.if-self-transaction.false, c.if-self-transaction-2.false) in
    let none = count_before f n es h C c.self.view_is t c.if-self-eq0.false low in
    one_more f n es h C c.self.view_is t t 1 c.insert.new.self.items 1 (put_before f n es h C c.self.view_is t c.if-self-eq0.false low c.insert.new.self.items c.in_ok-insert.ensures.items) (omega (arith, none))

pub returns-clause-count : goal.returns-clause-count
returns-clause-count c =
    let low : c.args.transaction.0 < c.self.inside.first = omega (arith, c.if-self-transaction.false, c.if-self-transaction-2.false) in
    let none = count_before c.self.inside.first c.self.inside.times c.self.inside.others.items c.self.invariant c.args.self.now c.self.view_is c.args.transaction.0 c.if-self-eq0.false low in
    omega (arith, none)
