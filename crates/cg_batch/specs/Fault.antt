-- Why a run of scripts as a whole is refused, as a refusal.
use Rattle.cg_name.specs.declared.refusal.Refusal.{Refusal}
use Rattle.cg_name.specs.declared.refusal.Refusal.TheVariants as refusals
use Rattle.cg_script.specs.Fault.{refusal_of}
use Rattle.cg_script.specs.declared.fault.ScriptFault.TheVariants.{Memory}
use Rattle.cg_runner.specs.declared.fault.RunFault.{RunFault}
use Rattle.cg_runner.specs.declared.fault.RunFault.TheVariants as run_faults
use Rattle.cg_batch.specs.declared.fault.BatchFault.{BatchFault}
use Rattle.cg_batch.specs.declared.fault.BatchFault.TheVariants.{Stopped, Disagree}

abbrev pub refusal_of_fault : BatchFault → Refusal
refusal_of_fault (Stopped fault) = refusal_of fault
refusal_of_fault Disagree = refusals.Disagree

-- that of scripts that were run
abbrev pub of_run_fault : RunFault → BatchFault
of_run_fault run_faults.Memory = Stopped Memory
of_run_fault run_faults.Disagree = Disagree
