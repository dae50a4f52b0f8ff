-- Nothing is open, and the tree is the world's.
use Rattle.std.proofs.Common.{sym, subst₂}
use Rattle.cg_core.specs.Parts.{IsCoreOf}
use Rattle.cg_core.proofs.Opened.{opened_core}
use Rattle.cg_core.proofs.machine.Core.open.Goals as goal

pub invariant_of-result : goal.invariant_of-result
invariant_of-result c =
    subst₂ (λ p l. IsCoreOf c.args.world c.args.limit p.0 p.1 c.in_ok-tree.tree c.new.result l) (sym c.new-3.ensures) (sym c.new-2.ensures)
    (opened_core c.args.world c.args.limit c.in_ok-tree.tree c.new.result c.requires.low c.requires.high c.from_world.ensures.sound c.in_ok-tree.ensures.tree c.in_ok-tree.ensures.entries c.new.ensures)
