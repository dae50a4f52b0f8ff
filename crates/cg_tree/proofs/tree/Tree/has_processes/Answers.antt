use Rattle.std.proofs.Common.{ap, ◌∙◌}
use Rattle.cg_maps.specs.FiniteMap.{get, is_nonempty, keys, retain}
use Rattle.cg_model.specs.Derived.{is_in, processes}
use Rattle.cg_tree.proofs.tree.Tree.has_processes.Goals as goal

pub returns : goal.returns
unfolding processes
returns c = c.has_processes.ensures ∙ ap (λ m. is_nonempty (keys (retain m (λ k. is_in c.args.path.now (get m k))))) c.groups.ensures.places
