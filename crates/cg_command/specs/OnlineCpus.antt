-- CPUs that are to be online: one at least.
use Rattle.std.specs.Prelude.{◌≡◌, true, Result, Ok, Err}
use Rattle.cg_maps.specs.FiniteSet.{FiniteSet, is_empty_set}
use Rattle.cg_name.specs.declared.refusal.Refusal.{Refusal}
use Rattle.cg_name.specs.declared.refusal.Refusal.TheVariants.{Syntax}
use Rattle.cg_command.specs.declared.online_cpus.OnlineCpus.{OnlineCpus}

-- a set of CPUs that isn't empty may be online; an empty one is Syntax
abbrev pub TellsOnline : FiniteSet → Result OnlineCpus Refusal → Type 0
TellsOnline cpus (Ok o) = o.cpus ≡ cpus
TellsOnline cpus (Err e) = (e ≡ Syntax) × (is_empty_set cpus ≡ true)
