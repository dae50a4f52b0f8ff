use Rattle.std.proofs.Common.{Some, ap, ◌∙◌}
use Rattle.cg_model.specs.Tree.{place_of}
use Rattle.cg_tree.proofs.tree.Tree.location.Goals as goal

pub returns-in_ok-to_path-in-Some : goal.returns-in_ok-to_path-in-Some
returns-in_ok-to_path-in-Some c = ap Some c.in_ok-to_path-in-Some.ensures ∙ c.in-Some.ensures ∙ ap (λ t. place_of t.tree c.args.pid) c.self.view_is

pub returns-in-None : goal.returns-in-None
returns-in-None c = c.in-None.ensures ∙ ap (λ t. place_of t.tree c.args.pid) c.self.view_is
