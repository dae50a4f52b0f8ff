use Rattle.std.proofs.Common.{ap, ◌∙◌, length}
use Rattle.cg_history.proofs.BySession.{same_length}
use Rattle.cg_history.proofs.session_map.SessionMap.len.Goals as goal

pub returns : goal.returns
returns g c = c.len.ensures.len ∙ same_length c.self.inside.entries.entries ∙ ap length c.self.view_is
