-- A node goes out of its chain, the last key gets the number of its own, and the last child of its parent its place.
use Rattle.std.proofs.Common.{IsSome, sym, ap, subst}
use Rattle.slab.specs.Slab as slab
use Rattle.cg_path_tree.specs.Linked.{entries_of, node_in, node_view}
use Rattle.cg_path_tree.proofs.LastFound.{true_of_seen}
use Rattle.cg_path_tree.proofs.Going.{its, place_there, moved_there, parent_there, place_below, moved_is_other, seen_left, kept_left}
use Rattle.cg_path_tree.proofs.Listing.{all_listed}
use Rattle.cg_path_tree.proofs.Ordered.{keys-keyed}
use Rattle.cg_path_tree.proofs.Seen.{key_there, value_at, have_one_path}
use Rattle.cg_path_tree.proofs.Views.{there_mapped}
use Rattle.cg_path_tree.proofs.path_tree.PathTree.remove.Goals as goal

pub unlink-requires : goal.unlink-requires
unlink-requires g c =
    let order = c.self.inside.order.items in
    record { chained = (order, c.self.invariant.chained, all_listed (entries_of c.self.inside.nodes c.self.inside.order.items) c.self.inside.nodes c.self.invariant.linked c.args.self.now c.self.view_is order (keys-keyed (node_in c.self.inside.nodes) c.self.inside.order.items) c.args.key c.requires.there) }

pub remove-node-requires : goal.remove-node-requires
remove-node-requires g c =
    let there = subst IsSome (sym (c.unlink.ensures.same c.args.key)) (key_there (entries_of c.self.inside.nodes c.self.inside.order.items) c.self.inside.nodes c.self.invariant.linked c.args.self.now c.self.view_is c.args.key c.requires.there) in
    subst (λ i. IsSome (slab.get c.unlink.new.nodes i)) (sym c.number.ensures) (there_mapped node_view (slab.get c.unlink.new.nodes c.args.key.0) there)

pub leave-requires-clause-within : goal.leave-requires-clause-within
leave-requires-clause-within g c = place_there c.self.inside.order.items c.self.inside.nodes c.self.invariant.linked c.args.self.now c.self.view_is c.args.key c.requires.there c.unlink.new.nodes c.remove-node.new.self c.unlink.ensures.same c.number.result c.number.ensures c.remove-node.result c.remove-node.ensures.value c.remove-node.ensures.updates

pub leave-requires-clause-moved : goal.leave-requires-clause-moved
leave-requires-clause-moved g c = moved_there c.self.inside.order.items c.self.inside.nodes c.self.invariant.linked c.args.self.now c.self.view_is c.args.key c.requires.there c.unlink.new.nodes c.remove-node.new.self c.unlink.ensures.same c.number.result c.number.ensures c.remove-node.result c.remove-node.ensures.value c.remove-node.ensures.updates

pub remove_child-requires-clause-there : goal.remove_child-requires-clause-there
remove_child-requires-clause-there g c =
    parent_there c.self.inside.order.items c.self.inside.nodes c.self.invariant.linked c.args.self.now c.self.view_is c.args.key c.requires.there c.unlink.new.nodes c.remove-node.new.self c.unlink.ensures.same c.number.result c.number.ensures c.remove-node.result c.remove-node.ensures.value c.remove-node.ensures.updates
    c.leave.new.order.items c.leave.ensures.keys c.requires.leaf c.leave.new.nodes c.leave.ensures.moved c.leave.ensures.unmoved c.parent.result c.parent.ensures.root c.parent.ensures.value

pub remove_child-requires-clause-listed : goal.remove_child-requires-clause-listed
remove_child-requires-clause-listed g c =
    place_below c.self.inside.order.items c.self.inside.nodes c.self.invariant.linked c.args.self.now c.self.view_is c.args.key c.requires.there c.unlink.new.nodes c.remove-node.new.self c.unlink.ensures.same c.number.result c.number.ensures c.remove-node.result c.remove-node.ensures.value c.remove-node.ensures.updates
    c.leave.new.order.items c.leave.ensures.keys c.requires.leaf c.leave.new.nodes c.leave.ensures.moved c.leave.ensures.unmoved c.parent.result c.parent.ensures.root c.parent.ensures.value

pub remove_child-requires-clause-others : goal.remove_child-requires-clause-others
remove_child-requires-clause-others g c k d n child =
    moved_is_other c.self.inside.order.items c.self.inside.nodes c.self.invariant.linked c.args.self.now c.self.view_is c.args.key c.requires.there c.unlink.new.nodes c.remove-node.new.self c.unlink.ensures.same c.number.result c.number.ensures c.remove-node.result c.remove-node.ensures.value c.remove-node.ensures.updates
    c.leave.new.order.items c.leave.ensures.keys c.requires.leaf c.leave.new.nodes c.leave.ensures.moved c.leave.ensures.unmoved c.parent.result c.parent.ensures.root c.parent.ensures.value k d n child

pub invariant_of-self : goal.invariant_of-self
invariant_of-self g c =
    let one = have_one_path (entries_of c.self.inside.nodes c.self.inside.order.items) c.self.inside.nodes c.self.invariant.linked c.args.self.now c.self.view_is in
    kept_left c.self.inside.order.items c.self.inside.nodes c.self.invariant.linked c.args.self.now c.self.view_is c.args.key c.requires.there c.unlink.new.nodes c.remove-node.new.self c.unlink.ensures.same c.number.result c.number.ensures c.remove-node.result c.remove-node.ensures.value c.remove-node.ensures.updates
    c.leave.new.order.items c.leave.ensures.keys c.requires.leaf c.leave.new.nodes c.leave.ensures.moved c.leave.ensures.unmoved c.parent.result c.parent.ensures.root c.parent.ensures.value
    c.remove_child.new.nodes c.remove_child.ensures.none c.remove_child.ensures.some
    c.self.inside.heads.items c.unlink.new.heads.items c.self.invariant.chained c.unlink.ensures.chained c.leave.ensures.links c.remove_child.ensures.links c.lose.new.self
    (c.lose.ensures c.args.self.now.keys c.requires.there.0 one c.requires.there.1
    (true_of_seen (entries_of c.self.inside.nodes c.self.inside.order.items) c.self.inside.nodes c.args.self.now c.self.inside.last c.self.view_is c.self.invariant.last))

pub returns-clause-keys : goal.returns-clause-keys
returns-clause-keys g c p h =
    ap (λ t. t.keys)
    (seen_left c.self.inside.order.items c.self.inside.nodes c.self.invariant.linked c.args.self.now c.self.view_is c.args.key (p, h) c.unlink.new.nodes c.remove-node.new.self c.unlink.ensures.same c.number.result c.number.ensures c.remove-node.result c.remove-node.ensures.value c.remove-node.ensures.updates
    c.leave.new.order.items c.leave.ensures.keys c.requires.leaf c.leave.new.nodes c.leave.ensures.moved c.leave.ensures.unmoved c.parent.result c.parent.ensures.root c.parent.ensures.value
    c.remove_child.new.nodes c.remove_child.ensures.none c.remove_child.ensures.some)

pub returns-clause-values : goal.returns-clause-values
returns-clause-values g c p h =
    ap (λ t. t.values)
    (seen_left c.self.inside.order.items c.self.inside.nodes c.self.invariant.linked c.args.self.now c.self.view_is c.args.key (p, h) c.unlink.new.nodes c.remove-node.new.self c.unlink.ensures.same c.number.result c.number.ensures c.remove-node.result c.remove-node.ensures.value c.remove-node.ensures.updates
    c.leave.new.order.items c.leave.ensures.keys c.requires.leaf c.leave.new.nodes c.leave.ensures.moved c.leave.ensures.unmoved c.parent.result c.parent.ensures.root c.parent.ensures.value
    c.remove_child.new.nodes c.remove_child.ensures.none c.remove_child.ensures.some)

pub returns-clause-value : goal.returns-clause-value
returns-clause-value g c p h =
    value_at (entries_of c.self.inside.nodes c.self.inside.order.items) c.self.inside.nodes c.self.invariant.linked c.args.self.now c.self.view_is p c.args.key (node_view c.remove-node.result) h
    (its c.self.inside.order.items c.self.inside.nodes c.self.invariant.linked c.args.self.now c.self.view_is c.args.key c.requires.there c.unlink.new.nodes c.remove-node.new.self c.unlink.ensures.same c.number.result c.number.ensures c.remove-node.result c.remove-node.ensures.value c.remove-node.ensures.updates)
