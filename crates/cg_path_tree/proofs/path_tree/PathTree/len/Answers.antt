use Rattle.std.proofs.Common.{◌<◌, subst, sym, ◌∙◌}
use Rattle.cg_path_tree.specs.Linked.{entries_of, node_in}
use Rattle.cg_path_tree.proofs.Ordered.{length-keyed}
use Rattle.cg_path_tree.proofs.Seen.{len_is}
use Rattle.cg_path_tree.proofs.path_tree.PathTree.len.Goals as goal

pub returns-clause-value : goal.returns-clause-value
returns-clause-value g c = c.len.ensures ∙ c.self.inside.order.ok.0 ∙ sym (length-keyed (node_in c.self.inside.nodes) c.self.inside.order.items) ∙ sym (len_is (entries_of c.self.inside.nodes c.self.inside.order.items) c.self.inside.nodes c.self.invariant.linked c.args.self.now c.self.view_is)

pub returns-clause-few : goal.returns-clause-few
returns-clause-few g c = subst (λ n. n < 4294967296) (sym (c.len.ensures ∙ c.self.inside.order.ok.0 ∙ sym (length-keyed (node_in c.self.inside.nodes) c.self.inside.order.items))) c.self.invariant.linked.few
