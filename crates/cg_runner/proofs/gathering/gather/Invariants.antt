use Rattle.std.proofs.Common.{◌≡◌, None, replicate, take}
use Rattle.std.specs.List.{AllByRecursion}
use Rattle.cg_runner.specs.Workers.{told_by, ArePut}
use Rattle.cg_runner.proofs.gathering.gather.Given as goal

abbrev pub invariant-loop-worker : goal.invariant-loop-worker
invariant-loop-worker l =
    ArePut (told_by (take l.worker-index l.workers)) (replicate l.scripts None) l.places.items
    × AllByRecursion (λ w. w.fault ≡ None) (take l.worker-index l.workers)
