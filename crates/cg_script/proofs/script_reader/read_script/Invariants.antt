use Rattle.std.proofs.Common.{length, take}
use Rattle.std.specs.List.{slice_split}
use Rattle.cg_text.specs.Words.{is_newline}
use Rattle.cg_script.specs.Script.{SayRequests}
use Rattle.cg_script.specs.ScriptLines.{asked_by}
use Rattle.cg_script.proofs.script_reader.read_script.Given as goal

-- the lines so far say what the script has
abbrev pub invariant-loop-line : goal.invariant-loop-line
invariant-loop-line l = SayRequests (take (length l.yielded) (slice_split is_newline l.fn.text)) (asked_by l.script)
