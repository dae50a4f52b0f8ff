use Rattle.std.proofs.Common.{sym, ◌∙◌, arith}
use borrow.Author.Tests.{ne_eqb}
use Rattle.cg_world.proofs.SoundTrees.{parent_by_prefix, no_parent_by_depth}
use Rattle.cg_world.proofs.soundness.Found.is_parent_of.Goals as goal

pub returns-then-saturating_sub-eq1 : goal.returns-then-saturating_sub-eq1
returns-then-saturating_sub-eq1 c = c.is_prefix.ensures ∙ parent_by_prefix _ _ (omega arith)

pub returns-else-saturating_sub-eq1 : goal.returns-else-saturating_sub-eq1
returns-else-saturating_sub-eq1 c = ne_eqb _ _ c.if-saturating_sub-eq1.false ∙ sym (no_parent_by_depth _ _ (λ e. absurd (omega arith)))
