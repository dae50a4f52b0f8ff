use Rattle.cg_model_laws.proofs.Swapping.{locality}
use Rattle.cg_model_laws.proofs.footprints_decide_effects.Goals as goal

pub returns : goal.returns
returns c = locality
