use Rattle.cg_lines.proofs.NewlineLemmas.{first_newline}
use Rattle.cg_lines.proofs.lines.newline_in.Goals as goal

pub returns : goal.returns
returns c = first_newline c.args.bytes.now c.memchr.result c.memchr.ensures
