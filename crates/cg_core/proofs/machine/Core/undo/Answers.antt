-- The newest command comes off, and the core after it is that of the history with its record.
use Rattle.std.proofs.Common.{◌≡◌, ◌+◌, ◌-◌, ◌≤◌, Err, length, refl, sym, ap, subst₂, ◌∙◌, arith}
use Rattle.cg_model.specs.History.{Undo, Refused}
use Rattle.cg_name.specs.declared.refusal.Refusal.TheVariants.{NothingToUndo}
use Rattle.cg_txn.specs.Stack.{Stack, ends_in_command}
use Rattle.cg_core.specs.Parts.{IsCoreOf}
use Rattle.cg_history.specs.SessionMap.{with_value}
use Rattle.cg_core.proofs.ReturningParts.{answer_told, state_told, noted_is, where_lent, no_error, out_refused, history_out, unchanged, few_records, slot_there, slots_there}
use Rattle.cg_core.proofs.ReturningByOne.{undo_may, undo_refused, history_not_undone, undo_answered, history_undone, undone_core}
use Rattle.cg_core.proofs.machine.Core.undo.Goals as goal

pub returns-in_default-clause-answer : goal.returns-in_default-clause-answer
returns-in_default-clause-answer c = answer_told c.args.session.0 Undo c.self.view_is (out_refused c.self.invariant c.args.session.0 (sym c.in_default.ensures.value) Undo refl)

pub returns-in_default-clause-state : goal.returns-in_default-clause-state
returns-in_default-clause-state c = state_told c.args.session.0 Undo c.self.view_is (history_out c.self.invariant c.args.session.0 (sym c.in_default.ensures.value) Undo tt refl refl)

pub undo-requires : goal.undo-requires
undo-requires c = undo_may c.self.invariant c.args.session.0 c.in-Some.txn.now (sym c.in-Some.ensures.value)

pub invariant_of-self-in-Err : goal.invariant_of-self-in-Err
invariant_of-self-in-Err c =
    unchanged c.self.invariant c.args.session.0 c.in-Some.txn.now (sym c.in-Some.ensures.value) c.in-Err.ensures.tree_kept c.in-Err.ensures.locks_kept c.in-Err.ensures.stack_kept
    (where_lent c.in-Some.is (c.get_mut.follows.holds c.undo.new.txn))

pub returns-in-Err-clause-answer : goal.returns-in-Err-clause-answer
returns-in-Err-clause-answer c =
    ap Refused c.in-Err.ensures.refusals
    ∙ answer_told c.args.session.0 Undo c.self.view_is
    (undo_refused c.self.invariant c.args.session.0 c.in-Some.txn.now (sym c.in-Some.ensures.value) (c.in-Err.ensures.nothing.0 (ap Err c.in-Err.ensures.refusals)))

pub returns-in-Err-clause-state : goal.returns-in-Err-clause-state
returns-in-Err-clause-state c =
    state_told c.args.session.0 Undo c.self.view_is
    (history_not_undone c.self.invariant c.args.session.0 c.in-Some.txn.now (sym c.in-Some.ensures.value) (c.in-Err.ensures.nothing.0 (ap Err c.in-Err.ensures.refusals)))

pub push-requires-clause-few : goal.push-requires-clause-few
push-requires-clause-few c = few_records c.self.invariant

pub push-requires-clause-reserved : goal.push-requires-clause-reserved
push-requires-clause-reserved c = slot_there c.self.invariant c.args.session.0 c.in-Some.txn.now (sym c.in-Some.ensures.value)

pub invariant_of-self-2 : goal.invariant_of-self-2
invariant_of-self-2 c =
    let is = sym c.in-Some.ensures.value in
    let x : Stack = c.in-Some.txn.now in
    let last : Stack = c.undo.new.txn in
    let some = no_error tt NothingToUndo (ends_in_command x.items) c.in_default-undo.ensures.nothing in
    let written : c.get_mut.follows.lender last ≡ with_value c.args.session.0 last c.self.inside.open = where_lent c.in-Some.is (c.get_mut.follows.holds last) in
    let pushed : c.push.new.self.1 ≡ c.self.inside.history.1 - 1 = ap (λ p. p.1) c.push.ensures in
    let slots : length x.items + 1 ≤ c.self.inside.history.1 = slots_there c.self.invariant c.args.session.0 x is in
    subst₂ (λ k l. IsCoreOf c.self.inside.opening c.self.inside.limit k c.push.new.self.1 c.undo.new.tree c.undo.new.locks l)
    (sym (noted_is c.number-number.ensures refl refl c.push.ensures)) (sym written)
    (undone_core c.self.invariant c.args.session.0 x is some c.push.new.self.1 c.undo.new.tree c.undo.new.locks last c.in_default-undo.ensures.off c.in_default-undo.ensures.stack (omega (arith, pushed, slots)))

pub returns-clause-answer : goal.returns-clause-answer
returns-clause-answer c =
    answer_told c.args.session.0 Undo c.self.view_is
    (undo_answered c.self.invariant c.args.session.0 c.in-Some.txn.now (sym c.in-Some.ensures.value) (no_error tt NothingToUndo (ends_in_command c.in-Some.txn.now.items) c.in_default-undo.ensures.nothing))

pub returns-clause-state : goal.returns-clause-state
returns-clause-state c =
    state_told c.args.session.0 Undo c.self.view_is
    (history_undone c.self.invariant c.args.session.0 c.in-Some.txn.now (sym c.in-Some.ensures.value) (no_error tt NothingToUndo (ends_in_command c.in-Some.txn.now.items) c.in_default-undo.ensures.nothing)
    ∙ sym (noted_is c.number-number.ensures refl refl c.push.ensures))
