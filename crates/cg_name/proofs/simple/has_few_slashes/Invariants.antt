use Rattle.std.proofs.Common.{◌≡◌, take}
use Rattle.std.specs.List.{count_by}
use Rattle.cg_name.specs.Simple.{is_slash}
use Rattle.cg_name.proofs.simple.has_few_slashes.Given as goal

abbrev pub invariant-loop-i : goal.invariant-loop-i
invariant-loop-i l = l.slashes ≡ count_by is_slash (take l.i l.text)
