use Rattle.cg_world_text.proofs.ToCome.{all_to_come}
use Rattle.cg_world_text.proofs.tree_writing.TreeLines.new.Goals as goal

pub returns : goal.returns
returns c = all_to_come c.version_of_tree.result c.args.tree.now.tree c.in_ok-groups.groups c.places.result c.version_of_tree.ensures c.in_ok-groups.ensures c.places.ensures
