-- The lines are the parts between newlines.
use Rattle.std.proofs.Common.{ap, ◌∙◌, filter, lit<}
use Rattle.std.proofs.lemmas.Iterator.Splits.{YieldsList-from_str_split}
use Rattle.std.proofs.lemmas.Iterator.Consumers.{YieldsList-at}
use Rattle.cg_text.specs.Words.{is_filled}
use Rattle.cg_text.proofs.Operations.{end_on}
use Rattle.cg_import.proofs.values.lines_in.Goals as goal

pub returns : goal.returns
returns c =
    let t = end_on c.loop-line.yielded _ c.loop-line.yielded_by _ _ c.in-None.is c.next.ensures.steps (YieldsList-at c.into_iter-line-iterator.ensures.into_iter_gives (YieldsList-from_str_split 10 c.args.text.now (lit< tt) c.split-line-items.ensures.text c.split-line-items.ensures.has_more c.split-line-items.ensures.pattern)) in
    c.loop-line.invariant ∙ ap (filter is_filled) t.0
