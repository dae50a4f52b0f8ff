use Rattle.std.proofs.Common.{inr}
use Rattle.cg_program.proofs.keeping.play_told.Goals as goal

pub returns-in-Ok-clause-front : goal.returns-in-Ok-clause-front
returns-in-Ok-clause-front g c = inr (inr (c.in-Ok.played.is_refused, c.in-Ok.played.core.history, c.in-Ok.ensures.done))
