-- A group may be where it is by its parent's settings alone.
use Rattle.std.proofs.Common.{sym, ◌∙◌, true≢false}
use Rattle.cg_world.specs.Soundness.{HasParent}
use Rattle.cg_world.proofs.SoundTrees.{no_parent, parent_is, some_is}
use Rattle.cg_world.proofs.soundness.is_sound_group.Goals as goal

pub returns-in-Some : goal.returns-in-Some
returns-in-Some c =
    let T = c.args.tree.now in
    let p = c.args.child.path.now in
    let found = some_is (λ g. HasParent T g.path.now g.settings.now p) _ _ c.in-Some.is c.in_ok-parent.ensures.found in
    parent_is T p _ _ _ _ found c.may_be_child.ensures

pub returns-in-None : goal.returns-in-None
returns-in-None c =
    let T = c.args.tree.now in
    let none = c.in_ok-parent.ensures.none c.in-None.is in
    (λ t. absurd (true≢false (sym t)), λ g. absurd (no_parent T c.args.child.path.now _ (sym c.is_root.ensures ∙ c.if-is_root.false) none g))
