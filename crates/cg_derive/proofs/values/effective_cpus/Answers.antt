-- By each group on the way.
use Rattle.std.proofs.Common.{◌∙◌}
use Rattle.cg_derive.specs.Upward.{narrowed_upward}
use Rattle.cg_derive.proofs.Way.{narrowed_on_way}
use Rattle.cg_derive.proofs.values.effective_cpus.Goals as goal

pub returns : goal.returns
returns c =
    c.narrow_upward.ensures
    ∙ (λ i. narrowed_upward (c.online-cpus.ensures i) (c.ancestors.ensures i))
    ∙ narrowed_on_way c.args.tree.now.tree c.args.path.now
