use Rattle.std.proofs.Common.{◌+◌, ap, arith}
use Rattle.cg_batch.specs.Ends.{end_line}
use Rattle.cg_batch.proofs.BatchLemmas.{lines_step}
use Rattle.cg_batch.proofs.ends.lines_of.Goals as goal

pub loop-end-preserved : goal.loop-end-preserved
loop-end-preserved c = (
  ap (λ n. n + 1) c.loop-end.invariant.0,
  lines_step (end_line c.args.form) c.args.ends.now c.loop-end.end-index c.loop-end.number _ c.loop-end.text.items _ (omega arith) c.loop-end.invariant.0 c.loop-end.invariant.1 c.in_ok-append_line.ensures,
)
