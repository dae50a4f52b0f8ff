use Rattle.cg_path_tree.proofs.LastFound.{true_of_none}
use Rattle.cg_path_tree.proofs.last_found.LastFound.clear.Goals as goal

pub returns : goal.returns
returns c = true_of_none c.args.self.now.path
