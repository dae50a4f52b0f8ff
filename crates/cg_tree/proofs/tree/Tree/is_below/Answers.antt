use Rattle.std.proofs.Common.{ap, ◌∙◌}
use Rattle.cg_model.specs.Derived.{is_in_subtree}
use Rattle.cg_model.specs.Tree.{place_of}
use Rattle.cg_tree.proofs.tree.Tree.is_below.Goals as goal

pub returns-in-Some : goal.returns-in-Some
returns-in-Some c = c.begins_with.ensures ∙ ap (is_in_subtree c.args.path.now) (c.in-Some.ensures ∙ ap (λ t. place_of t.tree c.args.pid) c.self.view_is)

pub returns-in-None : goal.returns-in-None
returns-in-None c = ap (is_in_subtree c.args.path.now) (c.in-None.ensures ∙ ap (λ t. place_of t.tree c.args.pid) c.self.view_is)
