-- The first node is the root's where it has no names.
use Rattle.std.proofs.Common.{slice_get, [], Some, sym, ap, subst, ◌∙◌}
use Rattle.std.specs.Option.{option_copied}
use Rattle.cg_path_tree.specs.Linked.{entries_of, node_in, node_view}
use Rattle.cg_path_tree.specs.Nodes.{IsKey}
use Rattle.cg_path_tree.proofs.Ordered.{keys-keyed, entry_stands}
use Rattle.cg_path_tree.proofs.Seen.{depth_at, entry_found, first_is_root, key_of_entry, slot_there, value_at}
use Rattle.cg_path_tree.proofs.Views.{seen_at}
use Rattle.cg_path_tree.proofs.path_tree.PathTree.root_value.Goals as goal

pub index-node-requires : goal.index-node-requires
index-node-requires g c =
    let at = ap (λ ks. slice_get ks 0) (sym c.deref.ensures.value) ∙ sym c.first.ensures.value ∙ ap option_copied c.in-Some.is in
    let e = entry_stands (entries_of c.self.inside.nodes c.self.inside.order.items) c.self.inside.order.items (keys-keyed (node_in c.self.inside.nodes) c.self.inside.order.items) 0 c.in-Some.first.now at in
    slot_there (entries_of c.self.inside.nodes c.self.inside.order.items) c.self.inside.nodes c.self.invariant.linked c.args.self.now c.self.view_is c.in-Some.first.now c.number.result c.number.ensures
    (subst (IsKey c.args.self.now.keys) e.2 (key_of_entry (entries_of c.self.inside.nodes c.self.inside.order.items) c.self.inside.nodes c.self.invariant.linked c.args.self.now c.self.view_is 0 e.0 e.1))

pub returns-then-node-eq0 : goal.returns-then-node-eq0
returns-then-node-eq0 g c =
    let at = ap (λ ks. slice_get ks 0) (sym c.deref.ensures.value) ∙ sym c.first.ensures.value ∙ ap option_copied c.in-Some.is in
    let e = entry_stands (entries_of c.self.inside.nodes c.self.inside.order.items) c.self.inside.order.items (keys-keyed (node_in c.self.inside.nodes) c.self.inside.order.items) 0 c.in-Some.first.now at in
    let there = seen_at c.self.inside.nodes c.in-Some.first.now c.number.result c.index-node.result.now c.number.ensures c.index-node.ensures in
    let found = entry_found (entries_of c.self.inside.nodes c.self.inside.order.items) c.self.inside.nodes c.self.invariant.linked c.args.self.now c.self.view_is 0 e.0 e.1 ∙ ap Some e.2 in
    let depth = depth_at (entries_of c.self.inside.nodes c.self.inside.order.items) c.self.inside.nodes c.self.invariant.linked c.args.self.now c.self.view_is e.0.0 c.in-Some.first.now (node_view c.index-node.result.now) found there in
    let root = first_is_root (entries_of c.self.inside.nodes c.self.inside.order.items) c.self.inside.nodes c.self.invariant.linked c.args.self.now c.self.view_is e.0.0 e.0.1 e.1 (sym depth ∙ c.if-node-eq0.true) in
    sym (value_at (entries_of c.self.inside.nodes c.self.inside.order.items) c.self.inside.nodes c.self.invariant.linked c.args.self.now c.self.view_is [] c.in-Some.first.now (node_view c.index-node.result.now) (sym root ∙ ap Some e.2) there)
