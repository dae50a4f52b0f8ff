-- The call is taken off the log of its session, and the map has what is left there.
use Rattle.std.proofs.Common.{◌≡◌, ◌∷◌, ◌∙◌, List, true, false, Some, OnSome, sym, ap, subst}
use Rattle.std.specs.Bool.{OnTrue}
use Rattle.cg_log.specs.Call as model
use Rattle.cg_history.specs.Meaning.{record_of}
use Rattle.cg_history.specs.SessionMap.{found, with_value}
use Rattle.cg_log.proofs.comparison.take_call.Goals as goal

pub returns-in-Some-clause-taken : goal.returns-in-Some-clause-taken
returns-in-Some-clause-taken c =
    let rests = c.args.rests.now in
    let s = c.args.entry.now.session.0 in
    let call = model.call_in (record_of c.args.entry.now) in
    elim c.take.result as (λ b. OnTrue b (c.in-Some.rest.now ≡ call ∷ c.take.new.self)
    → OnTrue b ((rest : List model.Call) × (found s rests ≡ Some (call ∷ rest)) × (c.get_mut.follows.lender c.take.new.self ≡ with_value s rest rests))) [
      | true ↦ λ e. (
        c.take.new.self,
        sym c.in-Some.ensures.value ∙ ap Some e,
        subst (λ r. OnSome r (c.get_mut.follows.lender c.take.new.self ≡ with_value s c.take.new.self rests)) c.in-Some.is (c.get_mut.follows.holds c.take.new.self),
      )
      | false ↦ λ e. tt
    ] c.take.ensures.taken
