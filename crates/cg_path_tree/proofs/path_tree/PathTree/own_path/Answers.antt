use Rattle.cg_path_tree.specs.Linked.{entries_of, node_view}
use Rattle.cg_path_tree.proofs.Seen.{slot_there, own_found}
use Rattle.cg_path_tree.proofs.Views.{seen_at}
use Rattle.cg_path_tree.proofs.path_tree.PathTree.own_path.Goals as goal

pub index-requires : goal.index-requires
index-requires g c = slot_there (entries_of c.self.inside.nodes c.self.inside.order.items) c.self.inside.nodes c.self.invariant.linked c.args.self.now c.self.view_is c.args.key c.number.result c.number.ensures c.requires

pub returns : goal.returns
returns g c =
    own_found (entries_of c.self.inside.nodes c.self.inside.order.items) c.self.inside.nodes c.self.invariant.linked c.args.self.now c.self.view_is c.args.key (node_view c.index.result.now) c.requires
    (seen_at c.self.inside.nodes c.args.key c.number.result c.index.result.now c.number.ensures c.index.ensures)
