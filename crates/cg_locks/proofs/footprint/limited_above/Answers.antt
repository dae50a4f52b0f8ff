-- Those of the groups with a limit are all.
use Rattle.std.proofs.Common.{◌++◌, length, sym, subst, ap, ◌∙◌}
use Rattle.cg_locks.specs.Counts.{counts_at, limited_depths, prefixes, AreDescending}
use Rattle.cg_locks.proofs.Counting.{all_limited, limited_descending}
use Rattle.cg_locks.proofs.footprint.limited_above.Goals as goal

pub returns-clause-counts : goal.returns-clause-counts
returns-clause-counts c =
    ap (λ ds. counts_at (prefixes c.args.path.now ds)) (c.in_ok-push_limited.ensures ∙ (λ i. c.in_ok-depths.ensures.items i ++ limited_depths (c.above.ensures i)))
    ∙ all_limited c.args.tree.now.tree c.args.path.now

pub returns-clause-descending : goal.returns-clause-descending
returns-clause-descending c =
    subst (AreDescending (length c.args.path.now)) (sym (c.in_ok-push_limited.ensures ∙ (λ i. c.in_ok-depths.ensures.items i ++ limited_depths (c.above.ensures i))))
    (limited_descending c.args.tree.now.tree c.args.path.now (length c.args.path.now))
