-- The parent is looked up by its path, which is its child's without the last name.
use Rattle.std.proofs.Common.{◌≡◌, true, length, ◌-◌, Some, take, sym, ap, subst, ◌∙◌}
use Rattle.cg_name.specs.Path.{is_parent}
use Rattle.cg_model.specs.Tree.{group}
use Rattle.cg_world.proofs.SoundTrees.{front_has_child, parent_is_front}
use Rattle.cg_world.proofs.soundness.find_parent.Goals as goal

pub returns-in-Some-entry-clause-found : goal.returns-in-Some-entry-clause-found
returns-in-Some-entry-clause-found c =
    let p = c.args.child.path.now in
    let front : c.in_ok-path.path ≡ take (length p - 1) p = c.in_ok-path.ensures ∙ ap (λ n. take n p) (c.saturating_sub.ensures ∙ ap (λ n. n - 1) c.args.child.counted) in
    let key : c.new.result.path.now ≡ c.in_ok-path.path = c.new.ensures.path ∙ c.in-Some-entry.ensures.key in (
      ap (group c.args.tree.now) key ∙ sym c.in-Some-entry.ensures.value ∙ ap (λ s. Some s) (sym c.new.ensures.settings),
      subst (λ q. is_parent q p ≡ true) (sym (key ∙ front)) (front_has_child p c.requires.below),
    )

pub returns-clause-none : goal.returns-clause-none
returns-clause-none c =
    let p = c.args.child.path.now in
    let front : c.in_ok-path.path ≡ take (length p - 1) p = c.in_ok-path.ensures ∙ ap (λ n. take n p) (c.saturating_sub.ensures ∙ ap (λ n. n - 1) c.args.child.counted) in
    λ _ q is. ap (group c.args.tree.now) (parent_is_front q p is ∙ sym front) ∙ sym c.in-None.ensures.value
