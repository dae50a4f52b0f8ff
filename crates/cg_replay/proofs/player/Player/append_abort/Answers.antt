use Rattle.std.proofs.Common.{◌≡◌, ℕ, ◌++◌, refl, sym, ap, subst, ◌∙◌, length, ◌<◌}
use Rattle.cg_model.specs.History.{Abort}
use Rattle.cg_model.specs.Opens.{opens}
use Rattle.cg_core.specs.State.{CoreState, after, reply}
use Rattle.cg_world_text.specs.World.{world_text}
use Rattle.cg_script.specs.Answer.{answer_text}
use Rattle.cg_replay.specs.Replay.{Replay, answer_line, core_ended, ending_text, tree_now}
use Rattle.cg_script.specs.Request.{newline}
use Rattle.cg_replay.proofs.Endings.{IsAborted, aborted, ended_last, ending_last, none_open}
use Rattle.cg_replay.proofs.player.Player.append_abort.Goals as goal

pub returns-in_default-clause-ended : goal.returns-in_default-clause-ended
returns-in_default-clause-ended c = λ _. (
  refl,
  refl,
  subst (λ (s : Replay). ending_text s.core ≡ world_text (tree_now s.core)) c.self.view_is (ending_last c.self.inside.core (none_open _ (sym c.in_default.ensures))),
)

pub returns-clause-aborted : goal.returns-clause-aborted
returns-clause-aborted c = λ _.
    let core : CoreState = c.self.inside.core in
    let s : ℕ = c.in-Some.session.0 in
    let next : CoreState = c.abort-answer.new.self.core in
    let gone : IsAborted core s next = aborted core next s (record { sound = c.laws.ensures.opening; reached = c.laws.ensures.reached }) (sym c.in-Some.ensures) (ap (λ (r : Replay). r.core) c.abort-answer.ensures.state ∙ ap (λ (r : Replay). after r.core s Abort) (sym c.self.view_is)) in (
      answer_line core s Abort,
      c.in_ok-end_line.ensures.ok ∙ ap (λ a. c.args.out.now.items ++ (answer_text a ++ newline)) (c.abort-answer.ensures.answer ∙ ap (λ (r : Replay). reply r.core s Abort) (sym c.self.view_is)),
      subst (λ (r : Replay). ending_text r.core ≡ answer_line core s Abort ++ ending_text next) c.self.view_is gone.text,
    )

pub returns-clause-fewer : goal.returns-clause-fewer
returns-clause-fewer c = λ _.
    let core : CoreState = c.self.inside.core in
    let s : ℕ = c.in-Some.session.0 in
    let next : CoreState = c.abort-answer.new.self.core in
    let gone : IsAborted core s next = aborted core next s (record { sound = c.laws.ensures.opening; reached = c.laws.ensures.reached }) (sym c.in-Some.ensures) (ap (λ (r : Replay). r.core) c.abort-answer.ensures.state ∙ ap (λ (r : Replay). after r.core s Abort) (sym c.self.view_is)) in
    subst (λ (r : Replay). length (opens next.history) < length (opens r.core.history)) c.self.view_is gone.fewer

pub returns-in_default-clause-last : goal.returns-in_default-clause-last
returns-in_default-clause-last c = λ _.
    subst (λ (s : Replay). s.core ≡ core_ended s.core) c.self.view_is (ended_last c.self.inside.core (none_open _ (sym c.in_default.ensures)))

pub returns-clause-goes_on : goal.returns-clause-goes_on
returns-clause-goes_on c = λ _.
    let core : CoreState = c.self.inside.core in
    let s : ℕ = c.in-Some.session.0 in
    let next : CoreState = c.abort-answer.new.self.core in
    let gone : IsAborted core s next = aborted core next s (record { sound = c.laws.ensures.opening; reached = c.laws.ensures.reached }) (sym c.in-Some.ensures) (ap (λ (r : Replay). r.core) c.abort-answer.ensures.state ∙ ap (λ (r : Replay). after r.core s Abort) (sym c.self.view_is)) in
    subst (λ (r : Replay). core_ended r.core ≡ core_ended next) c.self.view_is gone.same
