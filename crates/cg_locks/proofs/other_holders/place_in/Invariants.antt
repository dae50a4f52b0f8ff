-- All so far are of other parts or lower.
use Rattle.std.proofs.Common.{drop}
use Rattle.cg_locks.proofs.Others.{IsSought}
use Rattle.cg_locks.proofs.other_holders.place_in.Given as goal

abbrev pub invariant-loop-index : goal.invariant-loop-index
invariant-loop-index l = IsSought l.part l.transaction l.others l.index (drop l.index l.others)
