use Rattle.std.proofs.Common.{ap, is_some, ◌∙◌}
use Rattle.cg_model.specs.Tree.{place_of}
use Rattle.cg_tree.proofs.tree.Tree.has_process.Goals as goal

pub returns : goal.returns
returns c = c.has_process.ensures ∙ ap (λ t. is_some (place_of t.tree c.args.pid)) c.self.view_is
