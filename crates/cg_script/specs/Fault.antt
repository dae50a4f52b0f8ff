-- Faults as refusals, and those of lines as faults.
use Rattle.cg_name.specs.declared.refusal.Refusal.{Refusal}
use Rattle.cg_name.specs.declared.refusal.Refusal.TheVariants as refusals
use Rattle.cg_lines.specs.declared.lines.LineFault.{LineFault}
use Rattle.cg_lines.specs.declared.lines.LineFault.TheVariants as line_faults
use Rattle.cg_script.specs.declared.fault.ScriptFault.{ScriptFault}
use Rattle.cg_script.specs.declared.fault.ScriptFault.TheVariants as faults

abbrev pub refusal_of : ScriptFault → Refusal
refusal_of faults.Syntax = refusals.Syntax
refusal_of faults.Memory = refusals.Memory
refusal_of faults.ReadFault = refusals.ReadFault
refusal_of faults.WriteFault = refusals.WriteFault

abbrev pub of_line_fault : LineFault → ScriptFault
of_line_fault line_faults.Memory = faults.Memory
of_line_fault line_faults.Read = faults.ReadFault
