-- A command is settled, and the core after it is that of the history with its record; or it is unheard, and has none.
use Rattle.std.proofs.Common.{◌≡◌, Bool, true, false, inl, inr, refl, sym, ap, subst, subst₂, ◌∙◌, true≢false}
use Rattle.std.specs.Bool.{OnFalse, OnTrue}
use Rattle.cg_command.proofs.Proper.{proper}
use Rattle.cg_command.specs.Meaning.{command_of}
use Rattle.cg_history.specs.SessionMap.{with_value}
use Rattle.cg_history.specs.declared.record.Answer.TheVariants as answers
use Rattle.cg_model.specs.Cgroups.{cgroups}
use Rattle.cg_model.specs.History.{Request, Do, Answer, Refused}
use Rattle.cg_model.specs.Reply.{is_full}
use Rattle.cg_name.specs.declared.refusal.Refusal.{Refusal}
use Rattle.cg_name.specs.declared.refusal.Refusal.TheVariants.{Full}
use Rattle.cg_txn.specs.Stack.{Stack}
use Rattle.cg_core.specs.Answers.{is_memory}
use Rattle.cg_core.specs.Parts.{IsCoreOf}
use Rattle.cg_core.specs.Settled.{IsUnheard}
use Rattle.cg_core.specs.State.{has_record}
use Rattle.cg_core.proofs.CommitPlaces.{settled_other}
use Rattle.cg_commits.specs.Answers.{is_commit}
use Rattle.cg_core.proofs.ReturningParts.{answer_told, few, full_told, history_out, noted_is, out_refused, state_told, where_lent}
use Rattle.cg_core.proofs.RunCommands.{command_noted, same_core, run_full}
use Rattle.cg_core.proofs.Settling.{no_memory, settled_reply, settled_noted, settled_history, settled_core}
use Rattle.cg_core.proofs.machine.Core.run.Goals as goal

-- what holds anyway
unless : {P : Type 0} (b : Bool) → P → OnFalse b P
unless true p = tt
unless false p = p

-- what holds where nothing is
never : (P : Type 0) (b : Bool) → b ≡ false → OnTrue b P
never P true e = absurd (true≢false e)
never P false e = tt

-- a refusal with no record is Full, or want of memory
unheard_told : (full : Bool) (r : Refusal) (a : Answer) → IsUnheard full r → (full ≡ true → Refused Full ≡ a) → OnFalse (is_memory (answers.Refused r)) (Refused r ≡ a)
unheard_told full r a unheard when_full = elim unheard as (λ k. OnFalse (is_memory (answers.Refused r)) (Refused r ≡ a)) [
  | inl k ↦ unless _ (ap (λ e. Refused e) k.0 ∙ when_full k.1)
  | inr k ↦ subst (λ e. OnFalse (is_memory (answers.Refused e)) (Refused e ≡ a)) (sym k.0) tt
]

-- what is unheard wants memory only where the reply would be recorded
unheard_unrecorded : (full : Bool) (r : Refusal) (u : Bool) → IsUnheard full r → (full ≡ false → u ≡ true) → u ≡ false → is_memory (answers.Refused r) ≡ false
unheard_unrecorded full r u unheard due unnoted = elim unheard as (λ k. is_memory (answers.Refused r) ≡ false) [
  | inl k ↦ ap (λ e. is_memory (answers.Refused e)) k.0
  | inr k ↦ absurd (true≢false (sym (due k.1) ∙ unnoted))
]

pub returns-in_default-clause-answer : goal.returns-in_default-clause-answer
returns-in_default-clause-answer c =
    answer_told c.args.session.0 (Do (command_of c.args.command)) c.self.view_is (out_refused c.self.invariant c.args.session.0 (sym c.in_default.ensures.value) (Do (command_of c.args.command)) refl)

pub returns-in_default-clause-state : goal.returns-in_default-clause-state
returns-in_default-clause-state c =
    state_told c.args.session.0 (Do (command_of c.args.command)) c.self.view_is
    (history_out c.self.invariant c.args.session.0 (sym c.in_default.ensures.value) (Do (command_of c.args.command)) (proper c.args.command) refl refl)

pub settle-requires : goal.settle-requires
settle-requires c = few c.self.invariant

-- ---- it is unheard

pub invariant_of-self-in-Err : goal.invariant_of-self-in-Err
invariant_of-self-in-Err c =
    let last : Stack = c.settle.new.txn in
    let written : c.get_mut.follows.lender last ≡ with_value c.args.session.0 last c.self.inside.open = where_lent c.in-Some.is (c.get_mut.follows.holds last) in
    subst₂ (λ R l. IsCoreOf c.self.inside.opening c.self.inside.limit c.settle.new.history.0 c.settle.new.history.1 R c.settle.new.locks l)
    (sym c.in-Err.ensures.tree) (sym written)
    (subst (λ k. IsCoreOf c.self.inside.opening c.self.inside.limit k.0 k.1 c.self.inside.tree c.settle.new.locks (with_value c.args.session.0 last c.self.inside.open))
    (sym c.in-Err.ensures.history)
    (same_core c.self.invariant c.args.session.0 c.in-Some.txn.now (sym c.in-Some.ensures.value) c.settle.new.locks last c.in-Err.ensures.locks c.in-Err.ensures.number c.in-Err.ensures.items))

pub returns-in-Err-clause-answer : goal.returns-in-Err-clause-answer
returns-in-Err-clause-answer c =
    unheard_told _ c.in-Err.refusal _ c.in-Err.ensures.unheard
    (λ full.
    answer_told c.args.session.0 (Do (command_of c.args.command)) c.self.view_is
    (run_full c.self.invariant c.args.session.0 c.in-Some.txn.now (sym c.in-Some.ensures.value) (command_of c.args.command) (proper c.args.command)
    (full_told c.self.view_is c.is_full-full.ensures full)))

pub returns-in-Err-clause-unrecorded : goal.returns-in-Err-clause-unrecorded
returns-in-Err-clause-unrecorded c =
    let q : Request cgroups = Do (command_of c.args.command) in
    unheard_unrecorded _ c.in-Err.refusal _ c.in-Err.ensures.unheard
    (λ room.
    ap (λ v. has_record v c.args.session.0 q) (sym c.self.view_is)
    ∙ command_noted c.self.invariant c.args.session.0 c.in-Some.txn.now (sym c.in-Some.ensures.value) (command_of c.args.command) (full_told c.self.view_is c.is_full-full.ensures room))

-- ---- it is settled

pub push-requires-clause-other : goal.push-requires-clause-other
push-requires-clause-other c = ap is_commit c.again-recorded.ensures ∙ settled_other c.in-Ok.ensures.settled

pub invariant_of-self-in-Ok : goal.invariant_of-self-in-Ok
invariant_of-self-in-Ok c =
    let last : Stack = c.settle.new.txn in
    let room : is_full c.self.inside.limit c.self.inside.history.0 ≡ false = full_told c.self.view_is c.is_full-full.ensures c.in-Ok.ensures.room in
    let written : c.get_mut.follows.lender last ≡ with_value c.args.session.0 last c.self.inside.open = where_lent c.in-Some.is (c.get_mut.follows.holds last) in
    subst₂ (λ k l. IsCoreOf c.self.inside.opening c.self.inside.limit k c.push.new.self.1 c.settle.new.tree c.settle.new.locks l)
    (sym (noted_is c.number-number.ensures c.again-recorded.ensures refl c.push.ensures)) (sym written)
    (settled_core c.self.invariant c.args.session.0 c.in-Some.txn.now (sym c.in-Some.ensures.value) (command_of c.args.command) (proper c.args.command) room _ _ _ last c.settle.new.history c.in-Ok.ensures.settled
    c.push.new.self.1 (ap (λ p. p.1) c.push.ensures))

pub returns-in-Ok-clause-answer : goal.returns-in-Ok-clause-answer
returns-in-Ok-clause-answer c =
    let room : is_full c.self.inside.limit c.self.inside.history.0 ≡ false = full_told c.self.view_is c.is_full-full.ensures c.in-Ok.ensures.room in
    unless _
    (answer_told c.args.session.0 (Do (command_of c.args.command)) c.self.view_is
    (settled_reply c.self.invariant c.args.session.0 c.in-Some.txn.now (sym c.in-Some.ensures.value) (command_of c.args.command) (proper c.args.command) room _ _ _ _ c.settle.new.history c.in-Ok.ensures.settled))

pub returns-in-Ok-clause-state : goal.returns-in-Ok-clause-state
returns-in-Ok-clause-state c =
    let room : is_full c.self.inside.limit c.self.inside.history.0 ≡ false = full_told c.self.view_is c.is_full-full.ensures c.in-Ok.ensures.room in
    unless _
    (state_told c.args.session.0 (Do (command_of c.args.command)) c.self.view_is
    (settled_history c.self.invariant c.args.session.0 c.in-Some.txn.now (sym c.in-Some.ensures.value) (command_of c.args.command) (proper c.args.command) room _ _ _ _ c.settle.new.history c.in-Ok.ensures.settled
    ∙ sym (noted_is c.number-number.ensures c.again-recorded.ensures refl c.push.ensures)))

pub returns-in-Ok-clause-unrecorded : goal.returns-in-Ok-clause-unrecorded
returns-in-Ok-clause-unrecorded c = λ unnoted.
    let room : is_full c.self.inside.limit c.self.inside.history.0 ≡ false = full_told c.self.view_is c.is_full-full.ensures c.in-Ok.ensures.room in
    no_memory (command_of c.args.command) c.in-Ok.answer
    (settled_noted c.self.invariant c.args.session.0 c.in-Some.txn.now (sym c.in-Some.ensures.value) (command_of c.args.command) (proper c.args.command) room _ _ _ _ c.settle.new.history c.in-Ok.ensures.settled)

pub returns-in-Ok-clause-memory : goal.returns-in-Ok-clause-memory
returns-in-Ok-clause-memory c =
    let room : is_full c.self.inside.limit c.self.inside.history.0 ≡ false = full_told c.self.view_is c.is_full-full.ensures c.in-Ok.ensures.room in
    let noted = settled_noted c.self.invariant c.args.session.0 c.in-Some.txn.now (sym c.in-Some.ensures.value) (command_of c.args.command) (proper c.args.command) room _ _ _ _ c.settle.new.history c.in-Ok.ensures.settled in
    never _ _ (no_memory (command_of c.args.command) c.in-Ok.answer noted)
