use Rattle.cg_lines.proofs.LinesLemmas.{line_found}
use Rattle.cg_lines.proofs.lines.ChunkReader.take_line.Goals as goal

pub returns-clause-line : goal.returns-clause-line
returns-clause-line g c =
    let r = c.self.inside in
    rw (← c.self.view_is)
    (line_found r.chunk.items r.start r.end c.in_ok-n.n (rw (← c.deref.ensures.value) c.in_ok-n.ensures))
