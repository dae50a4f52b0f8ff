-- So it is of a request that takes no memory.
use Rattle.std.proofs.Common.{◌∙◌, sym, ap, subst}
use Rattle.std.proofs.lemmas.Bool.{false≢true}
use Rattle.cg_history.specs.Meaning.{answer_of, request_of}
use Rattle.cg_model.specs.Cgroups.{cgroups}
use Rattle.cg_model.specs.Reply.{reply_at}
use Rattle.cg_desk.specs.Replies.{MayAnswer}
use Rattle.cg_desk.proofs.NeverLost.{is_lost, never_lost}
use Rattle.cg_desk.proofs.Replied.{replied}
use Rattle.cg_desk.proofs.stepping.step_for_without_memory.Goals as goal

pub returns-clause-open : goal.returns-clause-open
returns-clause-open c = λ here is.
    let core = c.args.core.now in
    let r = request_of c.args.request in
    false≢true (sym (never_lost core.opening core.bound core.history c.args.number.0 r)
    ∙ ap is_lost (sym (c.step_without_memory.ensures.answer ∙ ap (λ o. reply_at cgroups core.opening core.bound core.history o r) here) ∙ ap answer_of is))

pub returns-clause-answers : goal.returns-clause-answers
returns-clause-answers c =
    let core = c.args.core.now in
    let t = c.args.number.0 in
    let r = request_of c.args.request in
    let reply_is = ap (λ o. reply_at cgroups core.opening core.bound core.history o r) (c.is_open_in.ensures.0 c.if-not-is_open_in.false) in
    subst (MayAnswer t r) (sym (c.step_without_memory.ensures.answer ∙ reply_is)) (replied core.opening core.bound core.history t r)
