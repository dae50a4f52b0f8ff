use Rattle.cg_world.proofs.Representable.{bare_representable, none_known, up_to_last}
use Rattle.cg_world.proofs.gathered_tree.GatheredTree.new.Goals as goal

pub invariant_of-result : goal.invariant_of-result
invariant_of-result c =
    rw (c.new.ensures, c.new-2.ensures) (none_known _ (bare_representable c.args.controllers c.args.online (up_to_last c.args.online c.contains.ensures.below)))
