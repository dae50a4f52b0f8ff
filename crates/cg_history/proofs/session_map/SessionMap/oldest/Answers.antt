use Rattle.std.proofs.Common.{sym, ap, ◌∙◌}
use Rattle.cg_history.specs.SessionMap.{oldest}
use Rattle.cg_history.proofs.BySession.{first_came}
use Rattle.cg_history.proofs.session_map.SessionMap.oldest.Goals as goal

pub returns-in-Some : goal.returns-in-Some
returns-in-Some g c = sym (first_came c.self.inside.entries.entries (c.in-Some.session.now, c.in-Some.field-0-1.now) (sym c.in-Some.ensures.entry)) ∙ ap oldest c.self.view_is
