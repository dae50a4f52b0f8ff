use Rattle.cg_log.proofs.Comparing.{IsLeftOf}
use Rattle.cg_log.proofs.comparison.all_are_in.Given as goal

abbrev pub invariant-loop-entry : goal.invariant-loop-entry
invariant-loop-entry l = IsLeftOf l.records l.fn.rests l.entry-index l.rests
