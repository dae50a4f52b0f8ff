use Rattle.std.proofs.Common.{◌≡◌, IfOk, filter, subst}
use Rattle.cg_maps.specs.FiniteMap.{entries, retain}
use Rattle.cg_model.specs.Derived.{children}
use Rattle.cg_name.specs.Path.{is_parent}
use Rattle.cg_tree.specs.Listing.{asks_for_cpus}
use Rattle.cg_tree.proofs.tree.Tree.children_with_cpus.Goals as goal

pub returns : goal.returns
unfolding children
returns c = subst (λ m. IfOk c.children_with_cpus.result (λ l. l ≡ filter asks_for_cpus (entries (retain m (is_parent c.args.path.now))))) c.groups.ensures.present c.children_with_cpus.ensures
