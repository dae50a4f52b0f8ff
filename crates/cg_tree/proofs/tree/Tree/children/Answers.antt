use Rattle.std.proofs.Common.{◌≡◌, IfOk, subst}
use Rattle.cg_maps.specs.FiniteMap.{entries, retain}
use Rattle.cg_model.specs.Derived.{children}
use Rattle.cg_name.specs.Path.{is_parent}
use Rattle.cg_tree.proofs.tree.Tree.children.Goals as goal

pub returns : goal.returns
unfolding children
returns c = subst (λ m. IfOk c.children.result (λ l. l ≡ entries (retain m (is_parent c.args.path.now)))) c.groups.ensures.present c.children.ensures
