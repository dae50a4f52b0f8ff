-- All processes, each by its PID.
use Rattle.std.proofs.Common.{ap, sym, subst, ◌∙◌}
use Rattle.cg_tree.specs.Placed.{placed, AreThere}
use Rattle.cg_tree.proofs.Places.{all_placed, all_there}
use Rattle.cg_tree.proofs.placed.Placed.new.Goals as goal

pub invariant_of-result : goal.invariant_of-result
invariant_of-result c = subst (AreThere c.args.groups.now.places) (sym c.requires) (all_there c.args.groups.now.places)

pub returns : goal.returns
returns c = ap (placed c.args.groups.now.places) c.requires ∙ all_placed c.args.groups.now.places
