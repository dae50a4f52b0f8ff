use Rattle.std.proofs.Common.{◌≡◌, ℕ, Some, ◌++◌, sym, ap, subst, ◌∙◌}
use Rattle.cg_core.specs.State.{CoreState}
use Rattle.cg_core_laws.specs.MachineOf.{Reached}
use Rattle.cg_history.specs.SessionMap.{oldest}
use Rattle.cg_model.specs.History.{Abort}
use Rattle.cg_model.specs.Opens.{opens, transaction_in}
use Rattle.cg_model.specs.Sound.{Sound}
use Rattle.cg_replay.proofs.Endings.{IsAborted, aborted, ending_last, none_open}
use Rattle.cg_replay.specs.Replay.{Replay, ending_text}
use Rattle.cg_script.specs.Answer.{answer_text}
use Rattle.cg_script.specs.Request.{newline}
use Rattle.cg_json_program.proofs.Lines.{ends_as, said_is}
use Rattle.cg_json_program.proofs.asking.abort_oldest.Goals as goal

pub returns-in_default-clause-plain : goal.returns-in_default-clause-plain
returns-in_default-clause-plain c =
    ending_last c.args.player.now.core (none_open _ (sym (c.in_default.ensures ∙ ap (λ (d : CoreState). oldest (opens d.history)) c.core.ensures)))

pub returns-clause-aborts : goal.returns-clause-aborts
returns-clause-aborts c =
    let s : Replay = c.args.player.now in
    let k : ℕ = c.in-Some.session.0 in
    ends_as s k _ _ (c.in-Some.ensures ∙ ap (λ (d : CoreState). oldest (opens d.history)) c.core.ensures)
    (said_is _ _ _ _ _ s.core k Abort c.name_of-name.ensures c.told_in-txn.ensures (c.txn_of-before.ensures ∙ ap (λ (d : CoreState). transaction_in k (opens d.history)) c.core-3.ensures) c.abort-answer.ensures.answer)
    c.abort-answer.ensures.state

pub returns-clause-plain : goal.returns-clause-plain
returns-clause-plain c =
    let s : Replay = c.args.player.now in
    let k : ℕ = c.in-Some.session.0 in
    let next : CoreState = c.abort-answer.new.self.core in
    let least : Some k ≡ oldest (opens s.core.history) = c.in-Some.ensures ∙ ap (λ (d : CoreState). oldest (opens d.history)) c.core.ensures in
    let sound = subst (λ (d : CoreState). Sound d.opening) c.core-2.ensures c.laws.ensures.opening in
    let reached = subst (λ (d : CoreState). Reached d.opening d.bound d.history) c.core-2.ensures c.laws.ensures.reached in
    let gone : IsAborted s.core k next = aborted s.core next k (record { sound = sound; reached = reached }) (sym least) (ap (λ (r : Replay). r.core) c.abort-answer.ensures.state) in
    gone.text ∙ ap (λ a. (answer_text a ++ newline) ++ ending_text next) (sym c.abort-answer.ensures.answer)

pub returns-clause-fewer : goal.returns-clause-fewer
returns-clause-fewer c =
    let s : Replay = c.args.player.now in
    let k : ℕ = c.in-Some.session.0 in
    let next : CoreState = c.abort-answer.new.self.core in
    let least : Some k ≡ oldest (opens s.core.history) = c.in-Some.ensures ∙ ap (λ (d : CoreState). oldest (opens d.history)) c.core.ensures in
    let sound = subst (λ (d : CoreState). Sound d.opening) c.core-2.ensures c.laws.ensures.opening in
    let reached = subst (λ (d : CoreState). Reached d.opening d.bound d.history) c.core-2.ensures c.laws.ensures.reached in
    let gone : IsAborted s.core k next = aborted s.core next k (record { sound = sound; reached = reached }) (sym least) (ap (λ (r : Replay). r.core) c.abort-answer.ensures.state) in
    gone.fewer
