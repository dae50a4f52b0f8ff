use Rattle.std.proofs.Common.{◌≡◌, take}
use Rattle.cg_batch.specs.Ends.{end_line, lines_by}
use Rattle.cg_batch.proofs.ends.lines_of.Given as goal

-- the lines so far, and how many they are
abbrev pub invariant-loop-end : goal.invariant-loop-end
invariant-loop-end l = (l.number ≡ l.end-index) × (l.text.items ≡ lines_by (end_line l.form) 1 (take l.end-index l.ends))
