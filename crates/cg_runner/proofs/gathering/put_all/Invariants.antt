use Rattle.std.proofs.Common.{take}
use Rattle.cg_runner.specs.Workers.{ArePut}
use Rattle.cg_runner.proofs.gathering.put_all.Given as goal

abbrev pub invariant-loop-one : goal.invariant-loop-one
invariant-loop-one l = ArePut (take l.one-index l.finished) l.initial.places l.places
