use Rattle.cg_text.proofs.BareEnd.{bare_end}
use Rattle.cg_text.proofs.cutting.behind_many_bare.Goals as goal

pub returns : goal.returns
returns c = bare_end c.args.text.now c.memchr3.result c.memchr3.ensures c.unwrap_or-end.result c.unwrap_or-end.ensures c.memchr.result c.memchr.ensures c.unwrap_or-end-2.result c.unwrap_or-end-2.ensures
