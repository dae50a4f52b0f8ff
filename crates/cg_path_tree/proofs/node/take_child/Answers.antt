use Rattle.cg_path_tree.specs.Linked.{node_view}
use Rattle.cg_path_tree.proofs.Views.{seen_at}
use Rattle.cg_path_tree.proofs.node.take_child.Goals as goal

pub take_out-requires : goal.take_out-requires
take_out-requires g c =
    c.requires.listed (node_view c.index_mut.result.now) (seen_at c.args.nodes.now c.args.key c.number.result c.index_mut.result.now c.number.ensures c.index_mut.ensures.value)
