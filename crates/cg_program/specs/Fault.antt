-- Why a file is not shown, as a refusal.
use Rattle.cg_name.specs.declared.refusal.Refusal.{Refusal}
use Rattle.cg_name.specs.declared.refusal.Refusal.TheVariants as refusals
use Rattle.cg_script.specs.Fault.{refusal_of}
use Rattle.cg_program.specs.declared.fault.ShowFault.{ShowFault}
use Rattle.cg_program.specs.declared.fault.ShowFault.TheVariants.{Stopped, NoGroup, NoFile}

abbrev pub refusal_of_fault : ShowFault → Refusal
refusal_of_fault (Stopped fault) = refusal_of fault
refusal_of_fault NoGroup = refusals.NoGroup
refusal_of_fault NoFile = refusals.NoFile
