-- The inverse gives the tree back, and a command that gives a text made no entry.
use Rattle.std.proofs.Common.{◌∙◌}
use Rattle.cg_core.proofs.Showing.{makes_no_entry}
use Rattle.cg_core.proofs.doing.apply.Goals as goal

pub returns-in-Err-clause-err : goal.returns-in-Err-clause-err
returns-in-Err-clause-err c = λ i. record {
  tree = (c.undo.ensures.tree ∙ c.in_ok-applied.ensures.identity) i;
  entries = (c.undo.ensures.entries ∙ c.in_ok-applied.ensures.entries ∙ makes_no_entry _ _ _ _ _ c.in_ok-applied.ensures.effect c.in-Err.ensures.err) i;
}
