-- The walk stops at the transaction with the number.
use Rattle.std.proofs.Common.{◌≡◌, ◌+◌, ◌==◌, true, false, cond, drop, map, Some, refl, sym, ap, ◌∙◌}
use Rattle.std.specs.List.{find}
use Rattle.cg_txn.specs.Stack.{Stack}
use Rattle.cg_core.proofs.HolderFound.{next_there}
use Rattle.cg_core.proofs.in_the_way.txn_with.Goals as goal

pub loop-index-init : goal.loop-index-init
loop-index-init c = refl

pub returns-then-eq : goal.returns-then-eq
returns-then-eq c =
    let n = c.args.number.0 in
    let x : Stack = c.in-Some.txn.now in
    let i = c.loop-index.index in
    let all = map (λ y. y.1) c.args.transactions.now in
    let is : (x.number == n) ≡ true = ap (λ k. k == n) (sym c.number.ensures) ∙ sym c.eq.ensures ∙ c.if-eq.true in
    sym (ap (λ b. cond b (Some x) (find (λ (y : Stack). y.number == n) (drop (i + 1) all))) is) ∙ sym (next_there (λ (y : Stack). y.number == n) all i x c.in-Some.ensures) ∙ c.loop-index.invariant

pub loop-index-preserved : goal.loop-index-preserved
loop-index-preserved c =
    let n = c.args.number.0 in
    let x : Stack = c.in-Some.txn.now in
    let i = c.loop-index.index in
    let all = map (λ y. y.1) c.args.transactions.now in
    let other : (x.number == n) ≡ false = ap (λ k. k == n) (sym c.number.ensures) ∙ sym c.eq.ensures ∙ c.if-eq.false in
    sym (ap (λ b. cond b (Some x) (find (λ (y : Stack). y.number == n) (drop (i + 1) all))) other) ∙ sym (next_there (λ (y : Stack). y.number == n) all i x c.in-Some.ensures) ∙ c.loop-index.invariant
