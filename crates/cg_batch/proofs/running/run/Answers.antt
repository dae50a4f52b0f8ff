use Rattle.std.proofs.lemmas.Option.{IfSome_then}
use Rattle.cg_lines.specs.Lines.{pending}
use Rattle.cg_watch.proofs.Telling.{untold}
use Rattle.cg_batch.proofs.running.run.Goals as goal

-- nothing was watched yet
pub returns-in_err-world-clause-watched : goal.returns-in_err-world-clause-watched
returns-in_err-world-clause-watched g c = untold g.S.Sink.taken c.args.watches.now.items

pub returns-in_err-scripts-clause-watched : goal.returns-in_err-scripts-clause-watched
returns-in_err-scripts-clause-watched g c = untold g.S.Sink.taken c.args.watches.now.items

pub returns-clause-world : goal.returns-clause-world
returns-clause-world g c = IfSome_then (pending c.args.world.now) c.in_ok-world.ensures.value (λ text h. (c.in_ok-world.world, pending c.read_world.new.reader, h))
