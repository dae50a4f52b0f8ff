-- What is told is of what was seen by then.
use Rattle.cg_watch.proofs.Telling.{front_since, on_false, on_true, whole_since}
use Rattle.cg_watch.proofs.looking.look.Goals as goal

pub returns-clause-whole : goal.returns-clause-whole
returns-clause-whole g c = on_true c.tell.result (whole_since g.S.Sink.taken _ _ _ _ _ c.answer.ensures.later) c.tell.ensures.whole

pub returns-clause-front : goal.returns-clause-front
returns-clause-front g c = on_false c.tell.result (front_since g.S.Sink.taken _ _ _ _ c.answer.ensures.later) c.tell.ensures.front
