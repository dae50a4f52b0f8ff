use Rattle.cg_path_tree.proofs.LastFound.{true_of_fewer}
use Rattle.cg_path_tree.proofs.last_found.LastFound.lose.Goals as goal

pub returns : goal.returns
returns c keys p one there =
    true_of_fewer keys p c.args.key one there c.args.self.now c.other_than-self.result c.other_than-self-2.result c.other_than-self.ensures.gone c.other_than-self.ensures.other
    c.other_than-self-2.ensures.gone c.other_than-self-2.ensures.other
