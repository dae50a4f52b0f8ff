use Rattle.std.proofs.Common.{◌≡◌, ◌↔◌, ℕ, Contains, Some, length, slice_get, sym, ap, subst, ◌∙◌}
use Rattle.cg_path_tree.specs.Linked.{entries_of, node_view}
use Rattle.cg_path_tree.specs.Nodes.{IsRightBelow}
use Rattle.cg_path_tree.specs.declared.node.NodeKey.{NodeKey}
use Rattle.cg_path_tree.proofs.Seen.{slot_there, children_at, children_are, children_once}
use Rattle.cg_path_tree.proofs.Views.{seen_at}
use Rattle.cg_path_tree.proofs.path_tree.PathTree.children.Goals as goal

pub index-requires : goal.index-requires
index-requires g c = slot_there (entries_of c.self.inside.nodes c.self.inside.order.items) c.self.inside.nodes c.self.invariant.linked c.args.self.now c.self.view_is c.args.key c.number.result c.number.ensures c.requires

pub returns-clause-below : goal.returns-clause-below
returns-clause-below g c p h =
    subst (λ ks. (k : NodeKey) → Contains ks k ↔ IsRightBelow c.args.self.now.keys p k) (sym c.deref.ensures.value)
    (children_are (entries_of c.self.inside.nodes c.self.inside.order.items) c.self.inside.nodes c.self.invariant.linked c.args.self.now c.self.view_is p c.args.key (node_view c.index.result.now) h
    (seen_at c.self.inside.nodes c.args.key c.number.result c.index.result.now c.number.ensures c.index.ensures))

pub returns-clause-once : goal.returns-clause-once
returns-clause-once g c =
    subst (λ ks. (i j : ℕ) (k : NodeKey) → slice_get ks i ≡ Some k → slice_get ks j ≡ Some k → i ≡ j) (sym c.deref.ensures.value)
    (children_once (entries_of c.self.inside.nodes c.self.inside.order.items) c.self.inside.nodes c.self.invariant.linked c.args.self.now c.self.view_is c.args.key (node_view c.index.result.now)
    (seen_at c.self.inside.nodes c.args.key c.number.result c.index.result.now c.number.ensures c.index.ensures))

pub returns-clause-count : goal.returns-clause-count
returns-clause-count g c p h =
    ap length c.deref.ensures.value
    ∙ children_at (entries_of c.self.inside.nodes c.self.inside.order.items) c.self.inside.nodes c.self.invariant.linked c.args.self.now c.self.view_is p c.args.key (node_view c.index.result.now) h
    (seen_at c.self.inside.nodes c.args.key c.number.result c.index.result.now c.number.ensures c.index.ensures)
