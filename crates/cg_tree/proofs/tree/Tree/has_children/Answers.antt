use Rattle.std.proofs.Common.{ap, ◌∙◌}
use Rattle.cg_maps.specs.FiniteMap.{entries, is_nonempty, retain}
use Rattle.cg_model.specs.Derived.{children}
use Rattle.cg_name.specs.Path.{is_parent}
use Rattle.cg_tree.proofs.tree.Tree.has_children.Goals as goal

pub returns : goal.returns
unfolding children
returns c = c.has_children.ensures ∙ ap (λ m. is_nonempty (entries (retain m (is_parent c.args.path.now)))) c.groups.ensures.present
