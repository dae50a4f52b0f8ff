use Rattle.std.proofs.Common.{◌≡◌, ◌++◌, ◌∷◌, [], map, refl, sym, subst, ◌∙◌}
use Rattle.cg_core.specs.State.{machine}
use Rattle.cg_history.specs.Meaning.{request_of}
use Rattle.cg_model.specs.History.{Commit}
use Rattle.cg_plan.specs.Leads.{AcceptsAll}
use Rattle.cg_plan.proofs.Accepted.{begun, none_left}
use Rattle.cg_plan.proofs.running.run.Goals as goal

pub loop-request-init : goal.loop-request-init
loop-request-init c = λ end accepted.
    begun c.in_ok-copy.field-0 c.args.from.now c.in_ok-core.core (machine c.ask.new.core) end (map request_of c.args.requests.items ++ Commit ∷ [])
    c.in_ok-copy.ensures c.in_ok-core.ensures (c.in_ok-ask.ensures c.if-not-branch.false)
    (subst (λ rs. AcceptsAll (machine c.ask.new.core) (map request_of rs ++ Commit ∷ []) end) c.into_iter-request-iterator.ensures.into_iter_gives.0 accepted)

pub loop-request-preserved : goal.loop-request-preserved
loop-request-preserved c = λ end accepted.
    c.loop-request.invariant end
    (subst (λ rs. AcceptsAll (machine c.loop-request.core) (map request_of rs ++ Commit ∷ []) end) (sym c.in-Some.ensures.steps.0)
    (machine c.ask-in-loop-request.new.core, c.in_ok-ask-2.ensures c.if-not-branch-2.false, accepted))

pub returns : goal.returns
returns c =
    let end = machine c.ask-2.new.core in
    let left = c.loop-request.request-iterator.rest in
    let none : left.items ≡ [] = none_left left.items (sym left.ok.0 ∙ c.in-None.ensures.steps.0) in
    c.loop-request.invariant end
    (subst (λ rs. AcceptsAll (machine c.loop-request.core) (map request_of rs ++ Commit ∷ []) end) (sym none)
    (end, c.in_ok-ask-3.ensures c.if-not-branch-3.false, refl))
