-- None of the marks so far is held and clashes.
use Rattle.cg_locks.specs.Meaning.{mark_of}
use Rattle.cg_locks.proofs.Soles.{NoneClashes}
use Rattle.cg_locks.proofs.sole_marks.is_any_clashing.Given as goal

abbrev pub invariant-loop-own : goal.invariant-loop-own
invariant-loop-own l = NoneClashes l.marks (mark_of l.mark) l.own-index
