-- What stands above the savepoint comes off, and the core after it is that of the history with its record.
use Rattle.std.proofs.Common.{◌≡◌, ◌+◌, ◌-◌, ◌≤◌, Err, length, refl, sym, ap, subst₂, ◌∙◌, arith}
use Rattle.cg_model.specs.History.{Back, Refused}
use Rattle.cg_name.specs.declared.refusal.Refusal.TheVariants.{NoSavepoint}
use Rattle.cg_history.specs.SessionMap.{with_value}
use Rattle.cg_txn.specs.Laws.{commands_above}
use Rattle.cg_txn.specs.Stack.{Stack, has_savepoint}
use Rattle.cg_core.specs.Parts.{IsCoreOf}
use Rattle.cg_core.proofs.ReturningParts.{answer_told, state_told, noted_is, where_lent, no_error, out_refused, history_out, unchanged, few, few_records, slot_there, slots_there}
use Rattle.cg_core.proofs.ReturningToSavepoints.{back_may, back_refused, history_not_back, fewer_counted, few_come_off, back_answered, history_back, back_core}
use Rattle.cg_core.proofs.machine.Core.back.Goals as goal

pub returns-in_default-clause-answer : goal.returns-in_default-clause-answer
returns-in_default-clause-answer c = answer_told c.args.session.0 (Back c.args.name) c.self.view_is (out_refused c.self.invariant c.args.session.0 (sym c.in_default.ensures.value) (Back c.args.name) refl)

pub returns-in_default-clause-state : goal.returns-in_default-clause-state
returns-in_default-clause-state c = state_told c.args.session.0 (Back c.args.name) c.self.view_is (history_out c.self.invariant c.args.session.0 (sym c.in_default.ensures.value) (Back c.args.name) tt refl refl)

pub back-requires : goal.back-requires
back-requires c = back_may c.self.invariant c.args.session.0 c.in-Some.txn.now (sym c.in-Some.ensures.value) c.args.name

pub overflow_cast-count : goal.overflow_cast-count
overflow_cast-count c =
    let is = sym c.in-Some.ensures.value in
    let there = no_error c.in-Ok.count NoSavepoint (has_savepoint c.args.name c.in-Some.txn.now.items) c.in-Ok.ensures.absent in
    let above = few_come_off c.self.invariant c.args.session.0 c.in-Some.txn.now is c.args.name there in
    let within = few c.self.invariant in
    let slots = slots_there c.self.invariant c.args.session.0 c.in-Some.txn.now is in
    let count : c.in-Ok.count ≡ length (commands_above c.args.name c.in-Some.txn.now.items) = c.in-Ok.ensures.count in
    omega (arith, above, within, slots, count)

pub push-requires-clause-few : goal.push-requires-clause-few
push-requires-clause-few c = few_records c.self.invariant

pub push-requires-clause-reserved : goal.push-requires-clause-reserved
push-requires-clause-reserved c = slot_there c.self.invariant c.args.session.0 c.in-Some.txn.now (sym c.in-Some.ensures.value)

pub overflow_sub-before : goal.overflow_sub-before
overflow_sub-before c =
    let there = no_error c.in-Ok.count NoSavepoint (has_savepoint c.args.name c.in-Some.txn.now.items) c.in-Ok.ensures.absent in
    let less : c.len-left.result + 1 ≤ c.len-before.result =
    fewer_counted c.self.invariant c.args.session.0 c.in-Some.txn.now (sym c.in-Some.ensures.value) c.args.name there c.len-before.ensures c.len-left.ensures c.in-Ok.ensures.stack in
    omega (arith, less)

pub overflow_sub-before-in-Ok : goal.overflow_sub-before-in-Ok
overflow_sub-before-in-Ok c =
    let there = no_error c.in-Ok.count NoSavepoint (has_savepoint c.args.name c.in-Some.txn.now.items) c.in-Ok.ensures.absent in
    let less : c.len-left.result + 1 ≤ c.len-before.result =
    fewer_counted c.self.invariant c.args.session.0 c.in-Some.txn.now (sym c.in-Some.ensures.value) c.args.name there c.len-before.ensures c.len-left.ensures c.in-Ok.ensures.stack in
    omega (arith, less)

pub release-requires : goal.release-requires
release-requires c =
    let slots = slots_there c.self.invariant c.args.session.0 c.in-Some.txn.now (sym c.in-Some.ensures.value) in
    let pushed : c.push.new.self.1 ≡ c.self.inside.history.1 - 1 = ap (λ p. p.1) c.push.ensures in
    omega (arith, c.len-before.ensures, slots, pushed)

pub invariant_of-self-in-Ok : goal.invariant_of-self-in-Ok
invariant_of-self-in-Ok c =
    let is = sym c.in-Some.ensures.value in
    let x : Stack = c.in-Some.txn.now in
    let last : Stack = c.back.new.txn in
    let there = no_error c.in-Ok.count NoSavepoint (has_savepoint c.args.name x.items) c.in-Ok.ensures.absent in
    let written : c.get_mut.follows.lender last ≡ with_value c.args.session.0 last c.self.inside.open = where_lent c.in-Some.is (c.get_mut.follows.holds last) in
    let pushed : c.push.new.self.1 ≡ c.self.inside.history.1 - 1 = ap (λ p. p.1) c.push.ensures in
    let released : c.release.new.self.1 ≡ c.push.new.self.1 - (c.len-before.result - c.len-left.result - 1) = ap (λ p. p.1) c.release.ensures in
    let slots : length x.items + 1 ≤ c.self.inside.history.1 = slots_there c.self.invariant c.args.session.0 x is in
    let less : c.len-left.result + 1 ≤ c.len-before.result = fewer_counted c.self.invariant c.args.session.0 x is c.args.name there c.len-before.ensures c.len-left.ensures c.in-Ok.ensures.stack in
    let before : c.len-before.result ≡ length x.items = c.len-before.ensures in
    let after : c.len-left.result ≡ length last.items = c.len-left.ensures in
    subst₂ (λ k l. IsCoreOf c.self.inside.opening c.self.inside.limit k c.release.new.self.1 c.back.new.tree c.back.new.locks l)
    (sym (ap (λ p. p.0) c.release.ensures ∙ noted_is c.number-number.ensures refl refl c.push.ensures)) (sym written)
    (back_core c.self.invariant c.args.session.0 x is c.args.name there c.in-Ok.count c.in-Ok.ensures.count c.release.new.self.1 c.back.new.tree c.back.new.locks last c.in-Ok.ensures.off c.in-Ok.ensures.stack
    (omega (arith, pushed, released, slots, less, before, after)))

pub invariant_of-self-in-Err : goal.invariant_of-self-in-Err
invariant_of-self-in-Err c =
    unchanged c.self.invariant c.args.session.0 c.in-Some.txn.now (sym c.in-Some.ensures.value) c.in-Err.ensures.tree_kept c.in-Err.ensures.locks_kept c.in-Err.ensures.stack_kept
    (where_lent c.in-Some.is (c.get_mut.follows.holds c.back.new.txn))

pub returns-in-Ok-clause-answer : goal.returns-in-Ok-clause-answer
returns-in-Ok-clause-answer c =
    let there = no_error c.in-Ok.count NoSavepoint (has_savepoint c.args.name c.in-Some.txn.now.items) c.in-Ok.ensures.absent in
    answer_told c.args.session.0 (Back c.args.name) c.self.view_is
    (back_answered c.self.invariant c.args.session.0 c.in-Some.txn.now (sym c.in-Some.ensures.value) c.args.name there c.in-Ok.count c.in-Ok.ensures.count)

pub returns-in-Ok-clause-state : goal.returns-in-Ok-clause-state
returns-in-Ok-clause-state c =
    let there = no_error c.in-Ok.count NoSavepoint (has_savepoint c.args.name c.in-Some.txn.now.items) c.in-Ok.ensures.absent in
    state_told c.args.session.0 (Back c.args.name) c.self.view_is
    (history_back c.self.invariant c.args.session.0 c.in-Some.txn.now (sym c.in-Some.ensures.value) c.args.name there c.in-Ok.count c.in-Ok.ensures.count
    ∙ sym (ap (λ p. p.0) c.release.ensures ∙ noted_is c.number-number.ensures refl refl c.push.ensures))

pub returns-in-Err-clause-answer : goal.returns-in-Err-clause-answer
returns-in-Err-clause-answer c =
    ap Refused c.in-Err.ensures.refusals
    ∙ answer_told c.args.session.0 (Back c.args.name) c.self.view_is
    (back_refused c.self.invariant c.args.session.0 c.in-Some.txn.now (sym c.in-Some.ensures.value) c.args.name (c.in-Err.ensures.absent.0 (ap Err c.in-Err.ensures.refusals)))

pub returns-in-Err-clause-state : goal.returns-in-Err-clause-state
returns-in-Err-clause-state c =
    state_told c.args.session.0 (Back c.args.name) c.self.view_is
    (history_not_back c.self.invariant c.args.session.0 c.in-Some.txn.now (sym c.in-Some.ensures.value) c.args.name (c.in-Err.ensures.absent.0 (ap Err c.in-Err.ensures.refusals)))
