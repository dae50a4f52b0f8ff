use Rattle.std.proofs.Common.{sym, ◌∙◌, arith}
use Rattle.cg_path_tree.specs.Linked.{entries_of, node_view}
use Rattle.cg_path_tree.proofs.Seen.{slot_there, children_at, leaf_at, children_fit}
use Rattle.cg_path_tree.proofs.Views.{seen_at}
use Rattle.cg_path_tree.proofs.path_tree.PathTree.child_count.Goals as goal

pub index-requires : goal.index-requires
index-requires g c = slot_there (entries_of c.self.inside.nodes c.self.inside.order.items) c.self.inside.nodes c.self.invariant.linked c.args.self.now c.self.view_is c.args.key c.number.result c.number.ensures c.requires

pub overflow_cast-result : goal.overflow_cast-result
overflow_cast-result g c =
    omega (arith, children_fit (entries_of c.self.inside.nodes c.self.inside.order.items) c.self.inside.nodes c.self.invariant.linked c.args.self.now c.self.view_is c.args.key (node_view c.index.result.now) (seen_at c.self.inside.nodes c.args.key c.number.result c.index.result.now c.number.ensures c.index.ensures), c.len.ensures ∙ c.index.result.now.children.ok.0)

pub returns-clause-count : goal.returns-clause-count
returns-clause-count g c p h =
    c.len.ensures
    ∙ c.index.result.now.children.ok.0
    ∙ children_at (entries_of c.self.inside.nodes c.self.inside.order.items) c.self.inside.nodes c.self.invariant.linked c.args.self.now c.self.view_is p c.args.key (node_view c.index.result.now) h
    (seen_at c.self.inside.nodes c.args.key c.number.result c.index.result.now c.number.ensures c.index.ensures)

pub returns-clause-leaf : goal.returns-clause-leaf
returns-clause-leaf g c p h none =
    leaf_at (entries_of c.self.inside.nodes c.self.inside.order.items) c.self.inside.nodes c.self.invariant.linked c.args.self.now c.self.view_is p c.args.key (node_view c.index.result.now) h
    (seen_at c.self.inside.nodes c.args.key c.number.result c.index.result.now c.number.ensures c.index.ensures)
    (sym (c.len.ensures ∙ c.index.result.now.children.ok.0) ∙ none)
