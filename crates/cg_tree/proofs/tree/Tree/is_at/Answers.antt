use Rattle.std.proofs.Common.{ap, ◌∙◌}
use Rattle.cg_model.specs.Derived.{is_in}
use Rattle.cg_model.specs.Tree.{place_of}
use Rattle.cg_tree.proofs.tree.Tree.is_at.Goals as goal

pub returns : goal.returns
returns c = c.is_at.ensures ∙ ap (λ t. is_in c.args.path.now (place_of t.tree c.args.pid)) c.self.view_is
