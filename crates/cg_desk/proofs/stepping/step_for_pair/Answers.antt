-- What a machine answers in an open transaction is never that it is lost, and may be answered there.
use Rattle.std.proofs.Common.{◌≡◌, ◌∙◌, sym, ap, subst}
use Rattle.std.proofs.lemmas.Bool.{false≢true}
use Rattle.std.specs.Bool.{OnFalse}
use Rattle.cg_core.specs.Answers.{is_memory}
use Rattle.cg_core.specs.State.{reply}
use Rattle.cg_history.specs.Meaning.{answer_of, request_of}
use Rattle.cg_model.specs.Cgroups.{cgroups}
use Rattle.cg_model.specs.Reply.{reply_at}
use Rattle.cg_desk.specs.Replies.{MayAnswer}
use Rattle.cg_desk.proofs.NeverLost.{is_lost, never_lost}
use Rattle.cg_desk.proofs.Replied.{replied, told}
use Rattle.cg_desk.proofs.stepping.step_for_pair.Goals as goal

pub returns-clause-open : goal.returns-clause-open
returns-clause-open c = λ here is.
    let core = c.args.core.now in
    let r = request_of c.args.request in
    let answer = c.step_pair.result.0 in
    let replied : answer_of answer ≡ reply core c.args.session.0 r = subst (λ b. OnFalse b (answer_of answer ≡ reply core c.args.session.0 r)) (ap is_memory is) c.step_pair.ensures.answer in
    false≢true (sym (never_lost core.opening core.bound core.history c.args.number.0 r)
    ∙ ap is_lost (sym (replied ∙ ap (λ o. reply_at cgroups core.opening core.bound core.history o r) here) ∙ ap answer_of is))

pub returns-clause-answers : goal.returns-clause-answers
returns-clause-answers c =
    let core = c.args.core.now in
    let t = c.args.number.0 in
    let r = request_of c.args.request in
    told t c.args.request c.step_pair.result.0 (reply core c.args.session.0 r) c.step_pair.ensures.answer c.step_pair.ensures.infallible c.step_pair.ensures.unrecorded
    (subst (λ o. MayAnswer t r (reply_at cgroups core.opening core.bound core.history o r)) (sym (c.is_open_in.ensures.0 c.if-not-is_open_in.false))
    (replied core.opening core.bound core.history t r))
