use Rattle.cg_cpus.proofs.Grammar.{one_set}
use Rattle.cg_cpus.proofs.laws.a_text_spells_at_most_one_set.Goals as goal

pub returns : goal.returns
returns c = one_set
