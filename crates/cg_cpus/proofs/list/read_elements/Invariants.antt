use Rattle.std.proofs.Common.{length, take, ◌==◌}
use Rattle.std.specs.List.{slice_split}
use Rattle.cg_cpus.specs.CpuList.{SpellsElements}
use Rattle.cg_cpus.proofs.list.read_elements.Given as goal

abbrev pub invariant-loop-element : goal.invariant-loop-element
invariant-loop-element l = SpellsElements (take (length l.yielded) (slice_split (λ c. c == 44) l.text)) l.set
