use Rattle.std.proofs.Common.{◌≡◌, ◌++◌, length}
use Rattle.cg_replay.proofs.Gathered.{IsGathered}
use Rattle.cg_replay.proofs.ending.write_lines.Given as goal

abbrev pub invariant-lines : goal.invariant-lines
invariant-lines g l = record {
  failed : g.K.Sink.failed l.sink ≡ g.K.Sink.failed l.fn.sink;
  gathered : IsGathered (g.K.Sink.taken l.fn.sink) (g.K.Sink.taken l.sink) (l.fn.out.items ++ l.fn.lines) l.out.items l.lines;
}

abbrev pub decreases-lines : goal.decreases-lines
decreases-lines g l = length l.lines
