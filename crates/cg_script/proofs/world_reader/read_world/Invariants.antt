use Rattle.cg_lines.specs.Lines.{pending, bytes_to_come}
use Rattle.cg_script.specs.WorldLines.{IsPart}
use Rattle.cg_script.proofs.world_reader.read_world.Given as goal

abbrev pub invariant-lines : goal.invariant-lines
invariant-lines g l = IsPart (pending l.fn.reader) l.part.world l.part.bytes (pending l.reader)

abbrev pub decreases-lines : goal.decreases-lines
decreases-lines g l = bytes_to_come l.reader
