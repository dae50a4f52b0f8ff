use Rattle.std.proofs.Common.{length, take}
use Rattle.std.specs.List.{slice_split}
use Rattle.cg_text.specs.Words.{is_newline}
use Rattle.cg_check.proofs.Schedules.{HasFaults}
use Rattle.cg_check.proofs.schedule.check_schedule.Given as goal

-- the faults are those of the lines so far
abbrev pub invariant-loop-line : goal.invariant-loop-line
invariant-loop-line l = HasFaults l.faults.count (take (length l.yielded) (slice_split is_newline l.fn.text)) l.names.keys
