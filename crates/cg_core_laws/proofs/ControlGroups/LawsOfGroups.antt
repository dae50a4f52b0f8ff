-- The tree of control groups keeps the laws that the theory asks.
use Rattle.std.proofs.Common.{sym}
use Rattle.cg_model.specs.Cgroups.{cgroups}
use Rattle.cg_model_laws.proofs.AcceptedCommands.{identity}
use Rattle.cg_model_laws.proofs.Marks.{clashes-swapped}
use Rattle.cg_model_laws.proofs.SoundCommands.{sound_kept}
use Rattle.cg_model_laws.proofs.Swapping.{alike_before, alike_after, trees_commute}
use Rattle.cg_core_laws.proofs.Interleaving.SystemLaws.{SystemLaws}

pub laws : SystemLaws cgroups
laws = record {
  clash_sym = clashes-swapped;
  sound_kept = λ T c o cs proper sound e. sound_kept c T o cs proper sound e;
  fits = λ T c o cs e. (identity c T o cs e).0;
  goes_back = λ T c o cs e. (identity c T o cs e).1;
  same_after = λ T c o cs d e apart. let p = alike_after c d T o cs e apart in (sym p.0, sym p.1);
  same_before = λ T c o cs d e apart. let p = alike_before c d T o cs e apart in (sym p.0, sym p.1);
  commute = λ T c o cs d q ds e f apart. trees_commute c d T o q cs ds e f apart;
}
