use Rattle.cg_program.proofs.replaying.replay_to.Goals as goal

pub returns-in-Ok-clause-done : goal.returns-in-Ok-clause-done
returns-in-Ok-clause-done g c = λ _. let done = c.in-Ok.ensures.done in (c.in-Ok.is_refused, done.0, c.status_of_played.ensures, done.1)
