use Rattle.cg_program.proofs.replaying.play_alone.Goals as goal

pub returns-in-Ok-clause-done : goal.returns-in-Ok-clause-done
returns-in-Ok-clause-done g c = (c.in-Ok.played.core.history, c.in-Ok.ensures.done)
