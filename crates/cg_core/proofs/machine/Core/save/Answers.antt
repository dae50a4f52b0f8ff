-- A savepoint is set, and the core after it is that of the history with its record.
use Rattle.std.proofs.Common.{◌≡◌, ◌+◌, ◌-◌, true, false, refl, sym, ap, subst, subst₂, ◌∙◌, arith}
use Rattle.cg_model.specs.History.{Save}
use Rattle.cg_model.specs.Reply.{is_full}
use Rattle.cg_history.specs.SessionMap.{with_value}
use Rattle.cg_txn.specs.Stack.{Stack, has_savepoint}
use Rattle.cg_core.specs.Parts.{IsCoreOf}
use Rattle.cg_core.proofs.ReturningParts.{answer_told, due, state_told, full_told, noted_is, where_lent, out_refused, history_out, unchanged}
use Rattle.cg_core.proofs.Savepoints.{save_taken, history_taken, save_full, history_full, save_answered, history_saved, saved_core}
use Rattle.cg_core.proofs.machine.Core.save.Goals as goal

pub returns-in_default-clause-answer : goal.returns-in_default-clause-answer
returns-in_default-clause-answer c = answer_told c.args.session.0 (Save c.args.name) c.self.view_is (out_refused c.self.invariant c.args.session.0 (sym c.in_default.ensures.value) (Save c.args.name) refl)

pub returns-in_default-clause-state : goal.returns-in_default-clause-state
returns-in_default-clause-state c = state_told c.args.session.0 (Save c.args.name) c.self.view_is (history_out c.self.invariant c.args.session.0 (sym c.in_default.ensures.value) (Save c.args.name) tt refl refl)

pub invariant_of-self-then-has_savepoint : goal.invariant_of-self-then-has_savepoint
invariant_of-self-then-has_savepoint c =
    unchanged c.self.invariant c.args.session.0 c.in-Some.txn.now (sym c.in-Some.ensures.value) refl refl refl (where_lent c.in-Some.is (c.get_mut.follows.holds c.in-Some.txn.now))

pub returns-then-has_savepoint-clause-answer : goal.returns-then-has_savepoint-clause-answer
returns-then-has_savepoint-clause-answer c =
    answer_told c.args.session.0 (Save c.args.name) c.self.view_is
    (save_taken c.self.invariant c.args.session.0 c.in-Some.txn.now (sym c.in-Some.ensures.value) c.args.name (sym c.has_savepoint.ensures ∙ c.if-has_savepoint.true))

pub returns-then-has_savepoint-clause-state : goal.returns-then-has_savepoint-clause-state
returns-then-has_savepoint-clause-state c =
    state_told c.args.session.0 (Save c.args.name) c.self.view_is
    (history_taken c.self.invariant c.args.session.0 c.in-Some.txn.now (sym c.in-Some.ensures.value) c.args.name (sym c.has_savepoint.ensures ∙ c.if-has_savepoint.true))

pub invariant_of-self-then-full : goal.invariant_of-self-then-full
invariant_of-self-then-full c =
    unchanged c.self.invariant c.args.session.0 c.in-Some.txn.now (sym c.in-Some.ensures.value) refl refl refl (where_lent c.in-Some.is (c.get_mut.follows.holds c.in-Some.txn.now))

pub returns-then-full-clause-answer : goal.returns-then-full-clause-answer
returns-then-full-clause-answer c =
    let full : is_full c.self.inside.limit c.self.inside.history.0 ≡ true = full_told c.self.view_is c.is_full-full.ensures c.if-full.true in
    answer_told c.args.session.0 (Save c.args.name) c.self.view_is
    (save_full c.self.invariant c.args.session.0 c.in-Some.txn.now (sym c.in-Some.ensures.value) c.args.name (sym c.has_savepoint.ensures ∙ c.if-has_savepoint.false) full)

pub returns-then-full-clause-state : goal.returns-then-full-clause-state
returns-then-full-clause-state c =
    let full : is_full c.self.inside.limit c.self.inside.history.0 ≡ true = full_told c.self.view_is c.is_full-full.ensures c.if-full.true in
    state_told c.args.session.0 (Save c.args.name) c.self.view_is
    (history_full c.self.invariant c.args.session.0 c.in-Some.txn.now (sym c.in-Some.ensures.value) c.args.name (sym c.has_savepoint.ensures ∙ c.if-has_savepoint.false) full)

pub invariant_of-self-in_default-reserve : goal.invariant_of-self-in_default-reserve
invariant_of-self-in_default-reserve c =
    let x : Stack = c.in-Some.txn.now in
    subst (λ p. IsCoreOf c.self.inside.opening c.self.inside.limit p.0 p.1 c.self.inside.tree c.self.inside.locks (c.get_mut.follows.lender x)) (sym c.in_default-reserve.ensures.err)
    (unchanged c.self.invariant c.args.session.0 x (sym c.in-Some.ensures.value) refl refl refl (where_lent c.in-Some.is (c.get_mut.follows.holds x)))

pub invariant_of-self-in_default-save : goal.invariant_of-self-in_default-save
invariant_of-self-in_default-save c =
    let last : Stack = c.save.new.self in
    let reserved : c.reserve.new.self.1 ≡ c.self.inside.history.1 + 2 = ap (λ p. p.1) c.in-Ok.ensures.ok in
    let released : c.release.new.self.1 ≡ c.reserve.new.self.1 - 2 = ap (λ p. p.1) c.release.ensures in
    let slots : c.release.new.self.1 ≡ c.self.inside.history.1 = omega (arith, reserved, released) in
    subst₂ (λ k n. IsCoreOf c.self.inside.opening c.self.inside.limit k n c.self.inside.tree c.self.inside.locks (c.get_mut.follows.lender last))
    (sym (ap (λ p. p.0) c.release.ensures ∙ ap (λ p. p.0) c.in-Ok.ensures.ok)) (sym slots)
    (unchanged c.self.invariant c.args.session.0 c.in-Some.txn.now (sym c.in-Some.ensures.value) refl refl c.in_default-save.ensures.err (where_lent c.in-Some.is (c.get_mut.follows.holds last)))

pub returns-in_default-reserve-clause-unrecorded : goal.returns-in_default-reserve-clause-unrecorded
returns-in_default-reserve-clause-unrecorded c =
    let room : is_full c.self.inside.limit c.self.inside.history.0 ≡ false = full_told c.self.view_is c.is_full-full.ensures c.if-full.false in
    let free : has_savepoint c.args.name c.in-Some.txn.now.items ≡ false = sym c.has_savepoint.ensures ∙ c.if-has_savepoint.false in
    due (Save c.args.name) _ _ (answer_told c.args.session.0 (Save c.args.name) c.self.view_is (save_answered c.self.invariant c.args.session.0 c.in-Some.txn.now (sym c.in-Some.ensures.value) c.args.name free room)) refl

pub returns-in_default-save-clause-unrecorded : goal.returns-in_default-save-clause-unrecorded
returns-in_default-save-clause-unrecorded c =
    let room : is_full c.self.inside.limit c.self.inside.history.0 ≡ false = full_told c.self.view_is c.is_full-full.ensures c.if-full.false in
    let free : has_savepoint c.args.name c.in-Some.txn.now.items ≡ false = sym c.has_savepoint.ensures ∙ c.if-has_savepoint.false in
    due (Save c.args.name) _ _ (answer_told c.args.session.0 (Save c.args.name) c.self.view_is (save_answered c.self.invariant c.args.session.0 c.in-Some.txn.now (sym c.in-Some.ensures.value) c.args.name free room)) refl

pub invariant_of-self-2 : goal.invariant_of-self-2
invariant_of-self-2 c =
    let is = sym c.in-Some.ensures.value in
    let x : Stack = c.in-Some.txn.now in
    let last : Stack = c.save.new.self in
    let room : is_full c.self.inside.limit c.self.inside.history.0 ≡ false = full_told c.self.view_is c.is_full-full.ensures c.if-full.false in
    let free : has_savepoint c.args.name x.items ≡ false = sym c.has_savepoint.ensures ∙ c.if-has_savepoint.false in
    let written : c.get_mut.follows.lender last ≡ with_value c.args.session.0 last c.self.inside.open = where_lent c.in-Some.is (c.get_mut.follows.holds last) in
    let reserved : c.reserve.new.self.1 ≡ c.self.inside.history.1 + 2 = ap (λ p. p.1) c.in-Ok.ensures.ok in
    let pushed : c.push.new.self.1 ≡ c.reserve.new.self.1 - 1 = ap (λ p. p.1) c.push.ensures in
    subst₂ (λ k l. IsCoreOf c.self.inside.opening c.self.inside.limit k c.push.new.self.1 c.self.inside.tree c.self.inside.locks l)
    (sym (noted_is c.number-number.ensures refl (ap (λ p. p.0) c.in-Ok.ensures.ok) c.push.ensures)) (sym written)
    (saved_core c.self.invariant c.args.session.0 x is c.args.name free room c.push.new.self.1 last (omega (arith, reserved, pushed)) (ap (λ (v : Stack). v.number) c.in-Ok-save.ensures.ok) (ap (λ (v : Stack). v.items) c.in-Ok-save.ensures.ok))

pub returns-clause-answer : goal.returns-clause-answer
returns-clause-answer c =
    let room : is_full c.self.inside.limit c.self.inside.history.0 ≡ false = full_told c.self.view_is c.is_full-full.ensures c.if-full.false in
    let free : has_savepoint c.args.name c.in-Some.txn.now.items ≡ false = sym c.has_savepoint.ensures ∙ c.if-has_savepoint.false in
    answer_told c.args.session.0 (Save c.args.name) c.self.view_is
    (save_answered c.self.invariant c.args.session.0 c.in-Some.txn.now (sym c.in-Some.ensures.value) c.args.name free room)

pub returns-clause-state : goal.returns-clause-state
returns-clause-state c =
    let room : is_full c.self.inside.limit c.self.inside.history.0 ≡ false = full_told c.self.view_is c.is_full-full.ensures c.if-full.false in
    let free : has_savepoint c.args.name c.in-Some.txn.now.items ≡ false = sym c.has_savepoint.ensures ∙ c.if-has_savepoint.false in
    state_told c.args.session.0 (Save c.args.name) c.self.view_is
    (history_saved c.self.invariant c.args.session.0 c.in-Some.txn.now (sym c.in-Some.ensures.value) c.args.name free room
    ∙ sym (noted_is c.number-number.ensures refl (ap (λ p. p.0) c.in-Ok.ensures.ok) c.push.ensures))
