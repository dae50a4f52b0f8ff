-- Nothing is below a path that has no node.
use Rattle.std.proofs.Common.{Some, None, sym, ap, subst, ◌∙◌}
use Rattle.cg_tree.specs.Entries.{groups_in, held_in, AreCounted}
use Rattle.cg_tree.proofs.Holding.{held_written}
use Rattle.cg_tree.proofs.Putting.{counted_added, groups_added}
use Rattle.cg_tree.proofs.counting.add_dead.Goals as goal

pub returns-clause-groups : goal.returns-clause-groups
returns-clause-groups c = ap groups_in c.in-Ok.ensures.values ∙ groups_added c.args.nodes.now c.laws.ensures.closed c.laws.ensures.both c.args.path.now c.requires.absent c.none.result c.none.ensures

pub returns-clause-held : goal.returns-clause-held
returns-clause-held c = ap held_in c.in-Ok.ensures.values ∙ held_written c.args.nodes.now.values c.args.path.now (Some (record { settings = None; below = 0; right_below = 0; passing = c.none.result; populated_by = 0 }))

pub returns-clause-counted : goal.returns-clause-counted
returns-clause-counted c =
    subst AreCounted (sym c.in-Ok.ensures.values) (counted_added c.args.nodes.now c.laws.ensures.closed c.laws.ensures.both c.args.path.now c.requires.absent c.none.result c.none.ensures c.requires.counted)
