use Rattle.std.proofs.Common.{◌≡◌, ◌-◌, ◌≤◌, [], false, vec_capacity}
use Rattle.cg_lines.proofs.LinesLemmas.{Gathered}
use Rattle.cg_lines.specs.Lines.{bytes_to_come, reading_of}
use Rattle.cg_lines.proofs.lines.ChunkReader.gather_line.Given as goal

abbrev pub invariant-pieces : goal.invariant-pieces
invariant-pieces g l = record {
  gathered : Gathered (reading_of l.fn.self []) (reading_of l.self l.line.items) l.fits;
  failed_before : l.self.failed_before ≡ l.fn.self.failed_before;
  failures : l.self.failures ≡ l.fn.self.failures;
  reads : l.fn.self.reads ≤ l.self.reads;
  room : 65536 ≤ vec_capacity l.line;
  to_come : bytes_to_come (reading_of l.self []) ≤ bytes_to_come (reading_of l.fn.self []);
  unbroken : l.self.is_broken ≡ false;
}

abbrev pub decreases-pieces : goal.decreases-pieces
decreases-pieces g l = 67108864 - l.self.reads
