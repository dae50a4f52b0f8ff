use Rattle.std.proofs.Common.{sym, ◌∙◌}
use Rattle.std.proofs.lemmas.Result.{IfOk-weaker}
use Rattle.cg_path_tree.specs.Linked.{entries_of, node_in}
use Rattle.cg_path_tree.proofs.Listing.{all_live, all_once, all_sorted}
use Rattle.cg_path_tree.proofs.Ordered.{keys-keyed}
use Rattle.cg_path_tree.proofs.path_tree.PathTree.sorted.Goals as goal

pub sort-requires-clause-live : goal.sort-requires-clause-live
sort-requires-clause-live g c i k at = all_live (entries_of c.self.inside.nodes c.self.inside.order.items) c.self.inside.nodes c.self.invariant.linked c.args.self.now c.self.view_is c.deref.result.now (keys-keyed (node_in c.self.inside.nodes) c.self.inside.order.items ∙ sym c.deref.ensures.value) i k at

pub sort-requires-clause-once : goal.sort-requires-clause-once
sort-requires-clause-once g c = all_once (entries_of c.self.inside.nodes c.self.inside.order.items) c.self.inside.nodes c.self.invariant.linked c.args.self.now c.self.view_is c.deref.result.now (keys-keyed (node_in c.self.inside.nodes) c.self.inside.order.items ∙ sym c.deref.ensures.value)

pub returns : goal.returns
returns g c =
    IfOk-weaker c.sort.result _ _ (λ ks each. all_sorted (entries_of c.self.inside.nodes c.self.inside.order.items) c.self.inside.nodes c.self.invariant.linked c.args.self.now c.self.view_is c.deref.result.now (keys-keyed (node_in c.self.inside.nodes) c.self.inside.order.items ∙ sym c.deref.ensures.value) ks.items each) c.sort.ensures
