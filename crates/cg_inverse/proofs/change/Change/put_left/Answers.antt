-- Each variant is one write.
use Rattle.std.proofs.Common.{◌≡◌, Some, sym, ap, subst, true, ◌∙◌}
use Rattle.cg_maps.specs.FiniteSet.{is_empty_set}
use Rattle.std.proofs.lemmas.Bool.{false≢true}
use Rattle.cg_inverse.specs.Meaning.{change_of, HasRoomToMake, LeavesNoCpus}
use Rattle.cg_inverse.proofs.Going.{with_left}
use Rattle.cg_inverse.proofs.change.Change.put_left.Goals as goal
use Rattle.cg_model.specs.Key as keys
use Rattle.cg_model.specs.Key.{put}

pub put_group-requires : goal.put_group-requires
put_group-requires c _ = subst (λ x. HasRoomToMake c.args.tree.now (change_of x)) c.in-Made.is c.requires

pub put_place-requires : goal.put_place-requires
put_place-requires c = subst (λ x. HasRoomToMake c.args.tree.now (change_of x)) c.in-Place.is c.requires

pub returns-in-Made-clause-tree : goal.returns-in-Made-clause-tree
returns-in-Made-clause-tree c =
    c.put_group.ensures.tree ∙ ap (λ s. put (keys.Group c.in-Made.path) (Some s) c.args.tree.now.tree) c.fresh.ensures ∙ ap (λ x. with_left x c.args.tree.now.tree) (sym c.in-Made.is)

pub returns-in-Removed-clause-tree : goal.returns-in-Removed-clause-tree
returns-in-Removed-clause-tree c = c.put_group-in-Removed.ensures.tree ∙ ap (λ x. with_left x c.args.tree.now.tree) (sym c.in-Removed.is)

pub returns-in-Place-clause-tree : goal.returns-in-Place-clause-tree
returns-in-Place-clause-tree c = c.put_place.ensures.tree ∙ ap (λ x. with_left x c.args.tree.now.tree) (sym c.in-Place.is)

pub returns-in-Control-clause-tree : goal.returns-in-Control-clause-tree
returns-in-Control-clause-tree c = c.put_value.ensures.tree ∙ ap (λ x. with_left x c.args.tree.now.tree) (sym c.in-Control.is)

pub returns-in-Freeze-clause-tree : goal.returns-in-Freeze-clause-tree
returns-in-Freeze-clause-tree c = c.put_value-in-Freeze.ensures.tree ∙ ap (λ x. with_left x c.args.tree.now.tree) (sym c.in-Freeze.is)

pub returns-in-LowCpus-clause-tree : goal.returns-in-LowCpus-clause-tree
returns-in-LowCpus-clause-tree c =
    c.put_value-in-LowCpus.ensures.tree
    ∙ ap (λ v. put (keys.Part c.in-LowCpus.path keys.Cpus) (Some v) c.args.tree.now.tree) c.boxed.ensures
    ∙ ap (λ x. with_left x c.args.tree.now.tree) (sym c.in-LowCpus.is)

pub returns-in_ok-copy-in-WideCpus-clause-tree : goal.returns-in_ok-copy-in-WideCpus-clause-tree
returns-in_ok-copy-in-WideCpus-clause-tree c =
    c.put_value-in-WideCpus.ensures.tree
    ∙ ap (λ v. put (keys.Part c.in-WideCpus.path keys.Cpus) (Some v) c.args.tree.now.tree) c.in_ok-copy-in-WideCpus.ensures.value
    ∙ ap (λ b. put (keys.Part c.in-WideCpus.path keys.Cpus) (Some b.left) c.args.tree.now.tree) c.deref.ensures
    ∙ ap (λ x. with_left x c.args.tree.now.tree) (sym c.in-WideCpus.is)

pub returns-in-MaxDescendants-clause-tree : goal.returns-in-MaxDescendants-clause-tree
returns-in-MaxDescendants-clause-tree c = c.put_value-in-MaxDescendants.ensures.tree ∙ ap (λ x. with_left x c.args.tree.now.tree) (sym c.in-MaxDescendants.is)

pub returns-in-MaxDepth-clause-tree : goal.returns-in-MaxDepth-clause-tree
returns-in-MaxDepth-clause-tree c = c.put_value-in-MaxDepth.ensures.tree ∙ ap (λ x. with_left x c.args.tree.now.tree) (sym c.in-MaxDepth.is)

pub returns-in-Online-clause-tree : goal.returns-in-Online-clause-tree
returns-in-Online-clause-tree c =
    c.put_online.ensures.tree ∙ ap (λ v. put keys.Online (Some v) c.args.tree.now.tree) c.get.ensures ∙ ap (λ x. with_left x c.args.tree.now.tree) (sym c.in-Online.is)

-- an error says that there are CPUs

pub returns-in_err-copy-in-WideCpus-clause-without_cpus : goal.returns-in_err-copy-in-WideCpus-clause-without_cpus
returns-in_err-copy-in-WideCpus-clause-without_cpus c = λ none.
    absurd (false≢true (c.in_err-copy-in-WideCpus.ensures.empty
    (subst (λ b. is_empty_set b.left ≡ true) (sym c.deref.ensures) (subst (λ x. LeavesNoCpus (change_of x)) c.in-WideCpus.is none))))
