use Rattle.cg_path_tree.specs.Linked.{entries_of, node_view}
use Rattle.cg_path_tree.proofs.Seen.{slot_there, parent_so}
use Rattle.cg_path_tree.proofs.Views.{seen_at}
use Rattle.cg_path_tree.proofs.path_tree.PathTree.parent.Goals as goal

pub index-node-requires : goal.index-node-requires
index-node-requires g c = slot_there (entries_of c.self.inside.nodes c.self.inside.order.items) c.self.inside.nodes c.self.invariant.linked c.args.self.now c.self.view_is c.args.key c.number.result c.number.ensures c.requires

pub returns-clause-root : goal.returns-clause-root
returns-clause-root g c p h =
    let at = seen_at c.self.inside.nodes c.args.key c.number.result c.index-node.result.now c.number.ensures c.index-node.ensures in
    (parent_so (entries_of c.self.inside.nodes c.self.inside.order.items) c.self.inside.nodes c.self.invariant.linked c.args.self.now c.self.view_is p c.args.key (node_view c.index-node.result.now) h at c.parent.result c.parent.ensures.root c.parent.ensures.value).0

pub returns-clause-value : goal.returns-clause-value
returns-clause-value g c p h =
    let at = seen_at c.self.inside.nodes c.args.key c.number.result c.index-node.result.now c.number.ensures c.index-node.ensures in
    (parent_so (entries_of c.self.inside.nodes c.self.inside.order.items) c.self.inside.nodes c.self.invariant.linked c.args.self.now c.self.view_is p c.args.key (node_view c.index-node.result.now) h at c.parent.result c.parent.ensures.root c.parent.ensures.value).1
