use Rattle.std.proofs.Common.{◌∷◌, sym, ap, subst, ◌∙◌}
use Rattle.indexmap.proofs.CallerLemmas.{insert_entry-new}
use Rattle.cg_history.specs.SessionMap.{by_session, found, IsOnceEach}
use Rattle.cg_history.proofs.BySession.{found_is, newest_is}
use Rattle.cg_history.proofs.session_map.SessionMap.insert.Goals as goal

pub invariant_of-self-2 : goal.invariant_of-self-2
invariant_of-self-2 g c =
    subst IsOnceEach
    (sym (ap by_session (c.in_ok-insert.ensures.entries ∙ insert_entry-new _ c.self.inside.entries c.args.session c.args.value (found_is c.args.session.0 c.self.inside.entries.entries c.self.invariant ∙ ap (found c.args.session.0) c.self.view_is ∙ c.requires))
    ∙ newest_is c.self.inside.entries.entries c.args.session c.args.value))
    (ap (found c.args.session.0) c.self.view_is ∙ c.requires, c.self.invariant)

pub returns-clause-ok : goal.returns-clause-ok
returns-clause-ok g c =
    ap by_session (c.in_ok-insert.ensures.entries ∙ insert_entry-new _ c.self.inside.entries c.args.session c.args.value (found_is c.args.session.0 c.self.inside.entries.entries c.self.invariant ∙ ap (found c.args.session.0) c.self.view_is ∙ c.requires))
    ∙ newest_is c.self.inside.entries.entries c.args.session c.args.value
    ∙ ap (λ l. (c.args.session.0, c.args.value) ∷ l) c.self.view_is
