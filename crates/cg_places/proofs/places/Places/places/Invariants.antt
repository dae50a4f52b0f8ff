use Rattle.std.proofs.Common.{◌≡◌, map, take}
use Rattle.cg_places.specs.Seats.{who}
use Rattle.cg_places.proofs.places.Places.places.Given as goal

abbrev pub invariant-loop-process : goal.invariant-loop-process
invariant-loop-process l = l.all.items ≡ map who (take l.process-index l.process-items)
