use Rattle.cg_path_tree.proofs.LastFound.{true_of_more}
use Rattle.cg_path_tree.proofs.last_found.LastFound.gain.Goals as goal

pub returns : goal.returns
returns c keys = true_of_more keys c.args.self.now c.args.key
