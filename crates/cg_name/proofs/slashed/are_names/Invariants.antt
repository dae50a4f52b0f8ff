use Rattle.cg_name.proofs.Slashes.{Reads}
use Rattle.cg_name.proofs.slashed.are_names.Given as goal

abbrev pub invariant-loop-i : goal.invariant-loop-i
invariant-loop-i l = Reads l.fn.text l.start l.i l.depth
