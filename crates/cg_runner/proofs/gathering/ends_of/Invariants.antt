use Rattle.std.proofs.Common.{◌≡◌, Some, map, take}
use Rattle.cg_runner.proofs.gathering.ends_of.Given as goal

abbrev pub invariant-loop-place : goal.invariant-loop-place
invariant-loop-place l = map Some l.ends.items ≡ take l.place-index l.places
