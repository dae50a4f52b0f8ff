use Rattle.std.proofs.Common.{ap, ◌∙◌}
use Rattle.cg_maps.specs.FiniteMap.{entries, retain}
use Rattle.cg_model.specs.Control.{used_below}
use Rattle.cg_model.specs.Derived.{children}
use Rattle.cg_name.specs.Path.{is_parent}
use Rattle.cg_tree.proofs.tree.Tree.control_below.Goals as goal

pub returns : goal.returns
unfolding children
returns c = c.control_below.ensures ∙ ap (λ m. used_below (entries (retain m (is_parent c.args.path.now)))) c.groups.ensures.present
