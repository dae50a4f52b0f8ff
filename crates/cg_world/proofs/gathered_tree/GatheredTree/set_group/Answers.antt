use Rattle.std.proofs.Common.{◌≡◌, ◌<◌, ℕ, true, inl, inr, sym, ap, subst, ◌∙◌, Some}
use Rattle.std.specs.Option.{is_some}
use Rattle.cg_maps.specs.FiniteMap.{from_entries, set_at}
use Rattle.cg_maps.specs.FiniteSet.{has}
use Rattle.cg_name.specs.Path.{path_cmp}
use Rattle.cg_model.specs.Tree.{group}
use Rattle.cg_world.specs.GatheredTree.{gathered_tree}
use Rattle.cg_world.specs.Representable.{IsRepresentable}
use Rattle.cg_world.proofs.Representable.{group_representable, no_groups_representable, none_known, up_to_last}
use Rattle.cg_world.proofs.Trees.{with_groups}
use Rattle.cg_world.proofs.gathered_tree.GatheredTree.set_group.Goals as goal

-- after an error all groups are there, or none
pub invariant_of-self : goal.invariant_of-self
invariant_of-self c = none_known _ (elim c.in_err-had.ensures.err [
  | inl same ↦ subst (λ es. IsRepresentable (with_groups (gathered_tree c.self.inside) (from_entries path_cmp es))) (sym same) c.self.invariant.representable
  | inr none ↦ subst (λ es. IsRepresentable (with_groups (gathered_tree c.self.inside) (from_entries path_cmp es))) (sym none) (no_groups_representable (gathered_tree c.self.inside) c.self.invariant.representable)
])

pub invariant_of-self-2 : goal.invariant_of-self-2
invariant_of-self-2 c =
    none_known _
    (subst IsRepresentable
    (sym (ap (with_groups (gathered_tree c.self.inside)) c.in_ok-had.ensures.ok))
    (group_representable (gathered_tree c.self.inside) c.args.path c.args.settings c.self.invariant.representable c.names.ensures.valid (up_to_last c.args.settings.cpus (subst (λ s. (n : ℕ) → has s n ≡ true → n < 1024) c.cpus.ensures c.contains.ensures.below))))

pub returns-clause-ok : goal.returns-clause-ok
returns-clause-ok c =
    ap (with_groups (gathered_tree c.self.inside)) c.in_ok-had.ensures.ok
    ∙ ap (λ T. with_groups T (set_at T.groups c.args.path (Some c.args.settings))) c.self.view_is

pub returns-clause-had : goal.returns-clause-had
returns-clause-had c = c.in_ok-had.ensures.had ∙ ap (λ T. is_some (group T c.args.path)) c.self.view_is
