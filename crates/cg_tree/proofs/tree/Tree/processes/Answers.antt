use Rattle.std.proofs.Common.{◌≡◌, IfOk, subst}
use Rattle.cg_maps.specs.FiniteMap.{get, keys, retain}
use Rattle.cg_model.specs.Derived.{is_in, processes}
use Rattle.cg_tree.proofs.tree.Tree.processes.Goals as goal

pub returns : goal.returns
unfolding processes
returns c = subst (λ m. IfOk c.processes.result (λ pids. pids.items ≡ keys (retain m (λ k. is_in c.args.path.now (get m k))))) c.groups.ensures.places c.processes.ensures
