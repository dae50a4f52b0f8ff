-- All so far are lower.
use Rattle.std.proofs.Common.{drop}
use Rattle.cg_locks.proofs.Places.{IsPassed}
use Rattle.cg_locks.proofs.holders.place_in.Given as goal

abbrev pub invariant-loop-index : goal.invariant-loop-index
invariant-loop-index l = IsPassed l.transaction l.entries l.index (drop l.index l.entries)
