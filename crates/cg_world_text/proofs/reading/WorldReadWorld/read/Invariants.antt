use Rattle.std.proofs.Common.{length, take}
use Rattle.std.specs.List.{slice_split}
use Rattle.cg_text.specs.Words.{is_newline}
use Rattle.cg_world_text.specs.Reader.{HasTaken}
use Rattle.cg_world_text.proofs.reading.WorldReadWorld.read.Given as goal

-- the reader has taken the lines so far
abbrev pub invariant-loop-line : goal.invariant-loop-line
invariant-loop-line l = HasTaken l.reader (take (length l.yielded) (slice_split is_newline l.fn.text))
