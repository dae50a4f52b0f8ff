use Rattle.cg_import.proofs.Controllers.{has_both}
use Rattle.cg_import.proofs.values.common.Goals as goal

pub returns : goal.returns
returns c = has_both c.args.some c.args.others c.difference.result c.difference-2.result c.difference.ensures c.difference-2.ensures
