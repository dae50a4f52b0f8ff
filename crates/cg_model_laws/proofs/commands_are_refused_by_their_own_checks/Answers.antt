use Rattle.cg_model_laws.proofs.OwnChecks.{own_checks}
use Rattle.cg_model_laws.proofs.commands_are_refused_by_their_own_checks.Goals as goal

pub returns : goal.returns
returns c = own_checks
