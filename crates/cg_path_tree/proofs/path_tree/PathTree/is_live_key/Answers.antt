-- Each node has an entry.
use Rattle.std.proofs.Common.{IsSome, subst}
use Rattle.slab.specs.Slab as slab
use Rattle.cg_path_tree.specs.Linked.{entries_of}
use Rattle.cg_path_tree.proofs.Seen.{key_from_node, slot_there}
use Rattle.cg_path_tree.proofs.path_tree.PathTree.is_live_key.Goals as goal

pub returns : goal.returns
returns g c = (
  (λ h. key_from_node (entries_of c.self.inside.nodes c.self.inside.order.items) c.self.inside.nodes c.self.invariant.linked c.args.self.now c.self.view_is c.args.key (subst (λ i. IsSome (slab.get c.self.inside.nodes i)) c.number.ensures (c.contains.ensures.0 h))),
  (λ key. c.contains.ensures.1 (slot_there (entries_of c.self.inside.nodes c.self.inside.order.items) c.self.inside.nodes c.self.invariant.linked c.args.self.now c.self.view_is c.args.key c.number.result c.number.ensures key)),
)
