use Rattle.std.proofs.Common.{ap, ◌∙◌}
use Rattle.cg_maps.specs.FiniteMap.{get, is_nonempty, keys, retain}
use Rattle.cg_model.specs.Derived.{is_in_subtree, processes_in_subtree}
use Rattle.cg_tree.proofs.tree.Tree.is_populated.Goals as goal

pub returns : goal.returns
unfolding processes_in_subtree
returns c = c.is_populated.ensures ∙ ap (λ m. is_nonempty (keys (retain m (λ k. is_in_subtree c.args.path.now (get m k))))) c.groups.ensures.places
