use Rattle.cg_cpus.proofs.Canonical.{canonical_spells}
use Rattle.cg_cpus.proofs.laws.the_canonical_text_spells_its_set.Goals as goal

pub returns : goal.returns
returns c = canonical_spells
