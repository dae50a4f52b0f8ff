use Rattle.cg_import.proofs.Asked.{done_at_zero}
use Rattle.cg_import.proofs.named.import_named.Goals as goal

pub returns-in-Ok-clause-done : goal.returns-in-Ok-clause-done
returns-in-Ok-clause-done g c = λ zero. c.in-Ok.ensures.done (c.tell.ensures.done (done_at_zero c.tell.result c.code.result c.code.ensures zero))
