use Rattle.std.proofs.Common.{sym, ap, subst, ◌∙◌}
use Rattle.cg_history.specs.SessionMap.{by_session, found, without, IsOnceEach}
use Rattle.cg_history.proofs.BySession.{found_is, removed_is, removed_once}
use Rattle.cg_history.proofs.session_map.SessionMap.remove.Goals as goal

pub invariant_of-self : goal.invariant_of-self
invariant_of-self g c =
    subst IsOnceEach (sym (ap by_session c.shift_remove.ensures.entries ∙ removed_is c.args.session.0 c.self.inside.entries.entries c.self.invariant))
    (removed_once c.args.session.0 (by_session c.self.inside.entries.entries) c.self.invariant)

pub returns-clause-value : goal.returns-clause-value
returns-clause-value g c = c.shift_remove.ensures.value ∙ found_is c.args.session.0 c.self.inside.entries.entries c.self.invariant ∙ ap (found c.args.session.0) c.self.view_is

pub returns-clause-removed : goal.returns-clause-removed
returns-clause-removed g c =
    ap by_session c.shift_remove.ensures.entries
    ∙ removed_is c.args.session.0 c.self.inside.entries.entries c.self.invariant
    ∙ ap (without c.args.session.0) c.self.view_is
