use Rattle.std.proofs.Common.{◌≡◌, ◌==◌, [], sym, ap, ◌∙◌}
use Rattle.cg_diff.proofs.Nothing.{nothing_where_same}
use Rattle.cg_diff.proofs.TwoWorlds.{no_bytes}
use Rattle.cg_plan.proofs.running.has_tree.Goals as goal

pub returns : goal.returns
returns c = λ e.
    let told = c.in_ok-difference.field-0 in
    let none : told.items ≡ [] = no_bytes told.items (sym (ap (λ n. n == 0) told.ok.0) ∙ sym c.is_empty.ensures ∙ e) in
    sym c.tree.ensures.value ∙ sym c.in_ok-left.ensures ∙ sym c.tree-2.ensures.value
    ∙ (nothing_where_same c.tree-2.result.now c.tree-3.result.now).0 (sym c.in_ok-difference.ensures ∙ none) ∙ c.tree-3.ensures.value
