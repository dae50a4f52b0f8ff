use Rattle.std.proofs.Common.{◌≡◌, ◌+◌, ◌-◌, ◌<◌, ◌≤◌, ◌∷◌, length, is_some, None, true, false, refl, sym, ap, subst, subst₂, ◌∙◌, arith}
use Rattle.cg_txn.specs.Stack.{Stack}
use Rattle.cg_name.specs.declared.refusal.Refusal.TheVariants.{AlreadyOpen}
use Rattle.cg_model.specs.History.{Begin, Begun, Refused}
use Rattle.cg_model.specs.Opens.{begins, opens, transaction_in}
use Rattle.cg_model.specs.Reply.{is_full}
use Rattle.cg_history.proofs.Records.{begins_within}
use Rattle.cg_history.specs.SessionMap.{found}
use Rattle.cg_core.specs.Parts.{IsCoreOf}
use Rattle.cg_core.proofs.Begun.{already_open, begin_full, begin_reply, begun_core, begun_record}
use Rattle.cg_core.proofs.Open.{found_told, nothing_there, session_absent, session_none, session_there}
use Rattle.cg_core.proofs.ReturningParts.{answer_told, due, state_told, full_told, noted_is, few_records}
use Rattle.cg_core.proofs.Stepping.{recorded, stays}
use Rattle.cg_core.proofs.TheLaws.{steps_law}
use Rattle.cg_core.proofs.machine.Core.begin.Goals as goal

pub returns-then-is_some-clause-answer : goal.returns-then-is_some-clause-answer
returns-then-is_some-clause-answer c =
    let there : is_some (found c.args.session.0 c.self.inside.open) ≡ true = found_told c.get.result c.get.ensures c.is_some.ensures c.if-is_some.true in
    answer_told c.args.session.0 Begin c.self.view_is
    (already_open c.self.inside.opening c.self.inside.limit c.self.inside.history.0 c.args.session.0 (session_there _ _ _ _ c.self.invariant.transactions c.args.session.0 there))

pub returns-then-is_some-clause-state : goal.returns-then-is_some-clause-state
returns-then-is_some-clause-state c = stays c.args.self.now c.args.session.0 Begin (Refused AlreadyOpen) (sym (returns-then-is_some-clause-answer c)) refl

pub returns-then-is_full-clause-answer : goal.returns-then-is_full-clause-answer
returns-then-is_full-clause-answer c =
    let absent : is_some (found c.args.session.0 c.self.inside.open) ≡ false = found_told c.get.result c.get.ensures c.is_some.ensures c.if-is_some.false in
    let full : is_full c.self.inside.limit c.self.inside.history.0 ≡ true = full_told c.self.view_is c.is_full.ensures c.if-is_full.true in
    answer_told c.args.session.0 Begin c.self.view_is
    (begin_full c.self.inside.opening c.self.inside.limit c.self.inside.history.0 c.args.session.0 (session_absent _ _ _ _ c.self.invariant.transactions c.args.session.0 absent) full)

pub returns-in_default-clause-unrecorded : goal.returns-in_default-clause-unrecorded
returns-in_default-clause-unrecorded c =
    let absent : found c.args.session.0 c.self.inside.open ≡ None = nothing_there _ (found_told c.get.result c.get.ensures c.is_some.ensures c.if-is_some.false) in
    let room : is_full c.self.inside.limit c.self.inside.history.0 ≡ false = full_told c.self.view_is c.is_full.ensures c.if-is_full.false in
    due Begin _ _ (answer_told c.args.session.0 Begin c.self.view_is (begin_reply _ _ _ c.args.session.0 (session_none _ _ _ _ c.self.invariant.transactions c.args.session.0 absent) room)) refl

pub returns-in_default-insert-clause-unrecorded : goal.returns-in_default-insert-clause-unrecorded
returns-in_default-insert-clause-unrecorded c =
    let absent : found c.args.session.0 c.self.inside.open ≡ None = nothing_there _ (found_told c.get.result c.get.ensures c.is_some.ensures c.if-is_some.false) in
    let room : is_full c.self.inside.limit c.self.inside.history.0 ≡ false = full_told c.self.view_is c.is_full.ensures c.if-is_full.false in
    due Begin _ _ (answer_told c.args.session.0 Begin c.self.view_is (begin_reply _ _ _ c.args.session.0 (session_none _ _ _ _ c.self.invariant.transactions c.args.session.0 absent) room)) refl

pub overflow_add-number : goal.overflow_add-number
overflow_add-number c =
    let counted : c.begun.result ≡ begins c.self.inside.history.0 = c.begun.ensures ∙ ap (λ p. begins p.0) c.in-Ok.ensures.ok in
    let records : begins c.self.inside.history.0 ≤ length c.self.inside.history.0 = begins_within c.self.inside.history.0 in
    let few : length c.self.inside.history.0 < 4294967295 = few_records c.self.invariant in
    omega (arith, counted, records, few)

pub invariant_of-self-2 : goal.invariant_of-self-2
invariant_of-self-2 c =
    let O = c.self.inside.opening in
    let b = c.self.inside.limit in
    let h = c.self.inside.history.0 in
    let s = c.args.session.0 in
    let absent : found s c.self.inside.open ≡ None = nothing_there _ (found_told c.get.result c.get.ensures c.is_some.ensures c.if-is_some.false) in
    let room : is_full b h ≡ false = full_told c.self.view_is c.is_full.ensures c.if-is_full.false in
    let counted : c.begun.result ≡ begins h = c.begun.ensures ∙ ap (λ p. begins p.0) c.in-Ok.ensures.ok in
    let history_is : c.push.new.self.0 ≡ record { session = s; transaction = begins h + 1; request = Begin; answer = Begun (begins h + 1) } ∷ h =
    noted_is (ap (λ n. n + 1) counted) (ap (λ n. Begun (n + 1)) counted) (ap (λ p. p.0) c.in-Ok.ensures.ok) c.push.ensures in
    let reserved : c.reserve.new.self.1 ≡ c.self.inside.history.1 + 2 = ap (λ p. p.1) c.in-Ok.ensures.ok in
    let pushed : c.push.new.self.1 ≡ c.reserve.new.self.1 - 1 = ap (λ p. p.1) c.push.ensures in
    let slots_are : c.push.new.self.1 ≡ c.self.inside.history.1 + 1 = omega (arith, reserved, pushed) in
    let begun : IsCoreOf O b (record { session = s; transaction = begins h + 1; request = Begin; answer = Begun (begins h + 1) } ∷ h) (c.self.inside.history.1 + 1) c.self.inside.tree c.self.inside.locks ((s, c.within-txn.result) ∷ c.self.inside.open) =
    subst (λ k. IsCoreOf O b k (c.self.inside.history.1 + 1) c.self.inside.tree c.self.inside.locks ((s, c.within-txn.result) ∷ c.self.inside.open))
    (begun_record O b h c.self.inside.history.1 c.self.inside.tree c.self.inside.locks c.self.inside.open c.self.invariant s absent room)
    (begun_core O b h c.self.inside.history.1 c.self.inside.tree c.self.inside.locks c.self.inside.open c.self.invariant s absent room c.within-txn.result
    (ap (λ (v : Stack). v.number) c.within-txn.ensures ∙ ap (λ n. n + 1) counted) (ap (λ (v : Stack). v.items) c.within-txn.ensures)) in
    subst (λ l. IsCoreOf O b c.push.new.self.0 c.push.new.self.1 c.self.inside.tree c.self.inside.locks l) (sym c.in-Ok-insert.ensures.ok)
    (subst₂ (λ k n. IsCoreOf O b k n c.self.inside.tree c.self.inside.locks ((s, c.within-txn.result) ∷ c.self.inside.open)) (sym history_is) (sym slots_are) begun)

pub returns-clause-answer : goal.returns-clause-answer
returns-clause-answer c =
    let absent : found c.args.session.0 c.self.inside.open ≡ None = nothing_there _ (found_told c.get.result c.get.ensures c.is_some.ensures c.if-is_some.false) in
    let room : is_full c.self.inside.limit c.self.inside.history.0 ≡ false = full_told c.self.view_is c.is_full.ensures c.if-is_full.false in
    ap (λ n. Begun (n + 1)) (c.begun.ensures ∙ ap (λ p. begins p.0) c.in-Ok.ensures.ok)
    ∙ answer_told c.args.session.0 Begin c.self.view_is (begin_reply _ _ _ c.args.session.0 (session_none _ _ _ _ c.self.invariant.transactions c.args.session.0 absent) room)

pub returns-clause-state : goal.returns-clause-state
returns-clause-state c =
    let s = c.args.session.0 in
    let h = c.self.inside.history.0 in
    let absent : found s c.self.inside.open ≡ None = nothing_there _ (found_told c.get.result c.get.ensures c.is_some.ensures c.if-is_some.false) in
    let room : is_full c.self.inside.limit h ≡ false = full_told c.self.view_is c.is_full.ensures c.if-is_full.false in
    let none : transaction_in s (opens h) ≡ None = session_none _ _ _ _ c.self.invariant.transactions s absent in
    let counted : c.begun.result ≡ begins h = c.begun.ensures ∙ ap (λ p. begins p.0) c.in-Ok.ensures.ok in
    state_told s Begin c.self.view_is
    (recorded steps_law _ _ _ c.self.invariant.sound c.self.invariant.reached s Begin tt _ (begin_reply _ _ _ s none room) refl
    ∙ begun_record _ _ _ _ _ _ _ c.self.invariant s absent room
    ∙ sym (noted_is (ap (λ n. n + 1) counted) (ap (λ n. Begun (n + 1)) counted) (ap (λ p. p.0) c.in-Ok.ensures.ok) c.push.ensures))
