use Rattle.std.proofs.Common.{map}
use Rattle.cg_import.proofs.Controllers.{HasNamed}
use Rattle.cg_import.proofs.values.controllers_in.Given as goal

-- what was found is what the words so far name
abbrev pub invariant-loop-word : goal.invariant-loop-word
invariant-loop-word l = HasNamed l.found (map (λ w. w.now) l.yielded)
