-- A file is found in the world that was read, and faults are told by their refusals.
use Rattle.std.proofs.Common.{List, ℕ, ◌≡◌, refl, subst}
use Rattle.std.specs.Prelude.{Option, IfSome, Result}
use Rattle.std.proofs.lemmas.Option.{IfSome_then}
use Rattle.cg_name.specs.Path.{Path}
use Rattle.cg_name.specs.declared.file_name.FileName.{FileName}
use Rattle.cg_name.specs.declared.refusal.Refusal.{Refusal}
use Rattle.cg_name.specs.declared.refusal.Refusal.TheVariants as refusals
use Rattle.cg_model.specs.File.{file}
use Rattle.cg_model.specs.Tree.{Tree}
use Rattle.cg_script.specs.WorldPart.{ReadsWorld}
use Rattle.cg_script.specs.declared.fault.ScriptFault.TheVariants as faults
use Rattle.cg_program.specs.Show.{IsFileOf}
use Rattle.cg_program.specs.Fault.{refusal_of_fault}
use Rattle.cg_program.specs.declared.fault.ShowFault.{ShowFault}
use Rattle.cg_program.specs.declared.fault.ShowFault.TheVariants.{Stopped, NoGroup, NoFile}

-- the file of a tree that equals the one that was read
pub file_found : (left rest : Option (List ℕ)) (T U : Tree) (p : Path) (f : FileName) (found : Result (List ℕ) Refusal) → IfSome left (λ text. ReadsWorld text T rest) → U ≡ T → file U p f ≡ found → IsFileOf left p f found
file_found left rest T U p f found reads e q =
    IfSome_then left reads (λ text h. (T, rest, h, subst (λ V. file V p f ≡ found) e q))

-- a read fault is told where a reader broke alone,
pub told_read_fault : (e : ShowFault) → refusal_of_fault e ≡ refusals.ReadFault → e ≡ Stopped faults.ReadFault
told_read_fault (Stopped faults.Syntax) h = absurd (cc h)
told_read_fault (Stopped faults.Memory) h = absurd (cc h)
told_read_fault (Stopped faults.ReadFault) h = refl
told_read_fault (Stopped faults.WriteFault) h = absurd (cc h)
told_read_fault NoGroup h = absurd (cc h)
told_read_fault NoFile h = absurd (cc h)

-- and a write fault where the sink failed
pub told_write_fault : (e : ShowFault) → refusal_of_fault e ≡ refusals.WriteFault → e ≡ Stopped faults.WriteFault
told_write_fault (Stopped faults.Syntax) h = absurd (cc h)
told_write_fault (Stopped faults.Memory) h = absurd (cc h)
told_write_fault (Stopped faults.ReadFault) h = absurd (cc h)
told_write_fault (Stopped faults.WriteFault) h = refl
told_write_fault NoGroup h = absurd (cc h)
told_write_fault NoFile h = absurd (cc h)
