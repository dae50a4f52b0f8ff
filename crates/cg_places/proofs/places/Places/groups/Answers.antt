use Rattle.std.proofs.Common.{ap, ◌∙◌}
use Rattle.cg_places.specs.Located.{Located}
use Rattle.cg_places.proofs.places.Places.groups.Goals as goal

pub returns : goal.returns
returns c = c.len.ensures ∙ c.self.inside.stacks.ok.0 ∙ ap (λ (v : Located). v.groups) c.self.view_is
