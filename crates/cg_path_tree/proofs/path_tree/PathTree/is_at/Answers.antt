-- The node that stands under the key has the path.
use Rattle.std.proofs.Common.{is_some, option_map, sym, ap, ◌∙◌}
use Rattle.std.specs.Option.{option_copied}
use Rattle.slab.specs.Slab as slab
use Rattle.cg_maps.specs.FiniteMap.{get}
use Rattle.cg_path_tree.specs.Linked.{entries_of, node_view}
use Rattle.cg_path_tree.proofs.Seen.{key_from_node, own_found}
use Rattle.cg_path_tree.proofs.path_tree.PathTree.is_at.Goals as goal

pub returns-in-Some : goal.returns-in-Some
returns-in-Some g c h =
    let slot = ap (slab.get c.self.inside.nodes) (sym c.number.ensures) ∙ sym c.get.ensures ∙ ap option_copied c.in-Some.is in
    let key = key_from_node (entries_of c.self.inside.nodes c.self.inside.order.items) c.self.inside.nodes c.self.invariant.linked c.args.self.now c.self.view_is c.args.key (ap is_some slot) in
    ap (get c.args.self.now.keys) (sym (c.is_same.ensures h)) ∙ own_found (entries_of c.self.inside.nodes c.self.inside.order.items) c.self.inside.nodes c.self.invariant.linked c.args.self.now c.self.view_is c.args.key (node_view c.in-Some.node.now) key (ap (option_map node_view) slot)
