use Rattle.std.proofs.Common.{◌≡◌}
use Rattle.cg_lines.specs.Lines.{pending, bytes_to_come}
use Rattle.cg_replay.proofs.Answered.{AreAnswered}
use Rattle.cg_replay.proofs.answering.answer_lines.Given as goal

abbrev pub invariant-lines : goal.invariant-lines
invariant-lines g l = record {
  failed : g.K.Sink.failed l.sink ≡ g.K.Sink.failed l.fn.sink;
  answered : AreAnswered g.A.Answerer.answers l.fn.answerer (pending l.fn.reader) (g.K.Sink.taken l.fn.sink) (g.K.Sink.taken l.sink) l.out.items l.answerer (pending l.reader);
}

abbrev pub decreases-lines : goal.decreases-lines
decreases-lines g l = bytes_to_come l.reader
