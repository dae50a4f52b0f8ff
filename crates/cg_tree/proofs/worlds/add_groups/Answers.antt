use Rattle.std.proofs.Common.{Some, sym, ap, ◌∙◌}
use Rattle.cg_maps.specs.FiniteMap.{empty, set_at}
use Rattle.cg_name.specs.Order.{path_cmp_total, path_cmp_exact}
use Rattle.cg_world.proofs.Puts.{puts, puts-entries}
use Rattle.cg_world.proofs.Trees.{with_groups}
use Rattle.cg_tree.specs.Present.{present}
use Rattle.cg_tree.proofs.worlds.add_groups.Goals as goal

pub loop-path-init : goal.loop-path-init
loop-path-init c =
    ap (λ m. with_groups c.args.tree.now (puts m c.into_iter-path-iterator.result)) c.requires
    ∙ ap (λ es. with_groups c.args.tree.now (puts empty es)) (c.into_iter-path-iterator.ensures.into_iter_gives ∙ c.in_ok-items.ensures)

pub loop-path-preserved : goal.loop-path-preserved
loop-path-preserved c =
    ap (λ T. with_groups T (puts T.groups c.next.new.self)) c.in_ok-set_group.ensures.ok
    ∙ (λ i. with_groups c.loop-path.tree (puts (set_at c.loop-path.tree.groups (c.in_ok-to_path.ensures i) (Some (c.in_ok-copy.ensures.value i))) c.next.new.self))
    ∙ ap (λ es. with_groups c.loop-path.tree (puts c.loop-path.tree.groups es)) (sym c.in-Some.ensures.steps)
    ∙ c.loop-path.invariant

pub returns : goal.returns
returns c =
    ap (λ es. with_groups c.loop-path.tree (puts c.loop-path.tree.groups es)) (sym c.in-None.ensures.steps.0)
    ∙ c.loop-path.invariant
    ∙ ap (with_groups c.args.tree.now) (puts-entries path_cmp_total path_cmp_exact (present c.args.groups.now.groups))
