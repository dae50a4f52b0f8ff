use Rattle.std.proofs.Common.{◌==◌, sym, ap, ◌∙◌}
use Rattle.std.proofs.lemmas.Bool.{eqb-true}
use Rattle.std.specs.Map.{lookup}
use Rattle.cg_history.specs.SessionMap.{found}
use Rattle.cg_history.proofs.BySession.{found_is}
use Rattle.cg_history.proofs.session_map.SessionMap.get.Goals as goal

pub returns-in-Some : goal.returns-in-Some
returns-in-Some g c =
    let same = eqb-true c.in-Some.there.now.0 c.args.session.0 (sym c.eq.ensures ∙ c.if-eq.true) in
    sym c.in-Some.ensures.value
    ∙ ap (λ n. lookup (λ k. n == k.0) c.self.inside.entries.entries) same
    ∙ found_is c.args.session.0 c.self.inside.entries.entries c.self.invariant
    ∙ ap (found c.args.session.0) c.self.view_is

pub returns-in_default : goal.returns-in_default
returns-in_default g c =
    c.get-in_default.ensures.value
    ∙ found_is c.args.session.0 c.self.inside.entries.entries c.self.invariant
    ∙ ap (found c.args.session.0) c.self.view_is
