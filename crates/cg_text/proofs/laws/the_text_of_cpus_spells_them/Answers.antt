use Rattle.cg_text.proofs.TrimmedLines.{cpus_are_spelled}
use Rattle.cg_text.proofs.laws.the_text_of_cpus_spells_them.Goals as goal

pub returns : goal.returns
returns c = cpus_are_spelled
