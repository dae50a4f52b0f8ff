use Rattle.std.proofs.Common.{nat_eq, ◌∙◌}
use Rattle.std.specs.Cmp.Lexicographic.{pointwise}
use Rattle.cg_locks.proofs.FirstClash.{same_prefix}
use Rattle.cg_locks.proofs.clashing.is_same_group.Goals as goal

pub returns : goal.returns
returns c =
    c.eq.ensures
    ∙ (λ i. pointwise nat_eq (c.prefix_bytes.ensures.value i) (c.prefix_bytes-2.ensures.value i))
    ∙ same_prefix c.args.path.now c.args.other.now c.args.depth c.args.other_depth c.prefix_bytes.ensures.valid c.prefix_bytes-2.ensures.valid
