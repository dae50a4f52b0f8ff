-- Each variant is one write.
use Rattle.std.proofs.Common.{Some, sym, ap, subst, ◌∙◌}
use Rattle.cg_inverse.specs.Meaning.{change_of, HasRoomIn}
use Rattle.cg_inverse.proofs.Going.{with_before}
use Rattle.cg_inverse.proofs.change.Change.put_before.Goals as goal
use Rattle.cg_model.specs.Key as keys
use Rattle.cg_model.specs.Key.{put}

pub put_group-requires-in-Removed : goal.put_group-requires-in-Removed
put_group-requires-in-Removed c _ = subst (λ x. HasRoomIn c.args.tree.now (change_of x)) c.in-Removed.is c.requires

pub put_place-requires : goal.put_place-requires
put_place-requires c = subst (λ x. HasRoomIn c.args.tree.now (change_of x)) c.in-Place.is c.requires

pub returns-in-Made-clause-tree : goal.returns-in-Made-clause-tree
returns-in-Made-clause-tree c = c.put_group.ensures.tree ∙ ap (λ x. with_before x c.args.tree.now.tree) (sym c.in-Made.is)

pub returns-in-Removed-clause-tree : goal.returns-in-Removed-clause-tree
returns-in-Removed-clause-tree c =
    c.put_group-in-Removed.ensures.tree ∙ ap (λ s. put (keys.Group c.in-Removed.path) (Some s) c.args.tree.now.tree) c.into_settings.ensures ∙ ap (λ x. with_before x c.args.tree.now.tree) (sym c.in-Removed.is)

pub returns-in-Place-clause-tree : goal.returns-in-Place-clause-tree
returns-in-Place-clause-tree c = c.put_place.ensures.tree ∙ ap (λ x. with_before x c.args.tree.now.tree) (sym c.in-Place.is)

pub returns-in-Control-clause-tree : goal.returns-in-Control-clause-tree
returns-in-Control-clause-tree c = c.put_value.ensures.tree ∙ ap (λ x. with_before x c.args.tree.now.tree) (sym c.in-Control.is)

pub returns-in-Freeze-clause-tree : goal.returns-in-Freeze-clause-tree
returns-in-Freeze-clause-tree c = c.put_value-in-Freeze.ensures.tree ∙ ap (λ x. with_before x c.args.tree.now.tree) (sym c.in-Freeze.is)

pub returns-in-LowCpus-clause-tree : goal.returns-in-LowCpus-clause-tree
returns-in-LowCpus-clause-tree c =
    c.put_value-in-LowCpus.ensures.tree
    ∙ ap (λ v. put (keys.Part c.in-LowCpus.path keys.Cpus) (Some v) c.args.tree.now.tree) c.boxed.ensures
    ∙ ap (λ x. with_before x c.args.tree.now.tree) (sym c.in-LowCpus.is)

pub returns-in-WideCpus-clause-tree : goal.returns-in-WideCpus-clause-tree
returns-in-WideCpus-clause-tree c =
    c.put_value-in-WideCpus.ensures.tree
    ∙ ap (λ b. put (keys.Part c.in-WideCpus.path keys.Cpus) (Some b.before) c.args.tree.now.tree) c.into_inner-before.ensures
    ∙ ap (λ x. with_before x c.args.tree.now.tree) (sym c.in-WideCpus.is)

pub returns-in-MaxDescendants-clause-tree : goal.returns-in-MaxDescendants-clause-tree
returns-in-MaxDescendants-clause-tree c = c.put_value-in-MaxDescendants.ensures.tree ∙ ap (λ x. with_before x c.args.tree.now.tree) (sym c.in-MaxDescendants.is)

pub returns-in-MaxDepth-clause-tree : goal.returns-in-MaxDepth-clause-tree
returns-in-MaxDepth-clause-tree c = c.put_value-in-MaxDepth.ensures.tree ∙ ap (λ x. with_before x c.args.tree.now.tree) (sym c.in-MaxDepth.is)

pub returns-in-Online-clause-tree : goal.returns-in-Online-clause-tree
returns-in-Online-clause-tree c =
    c.put_online.ensures.tree ∙ ap (λ v. put keys.Online (Some v) c.args.tree.now.tree) c.get.ensures ∙ ap (λ x. with_before x c.args.tree.now.tree) (sym c.in-Online.is)
