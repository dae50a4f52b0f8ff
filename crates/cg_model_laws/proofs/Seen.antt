-- What a command sees of a tree is what its mark covers.
use Rattle.std.proofs.Common.{◌≡◌, Bool, true, false, cond, [], ◌∷◌, ◌++◌, drop, refl, sym, ap, subst, ◌∙◌, true≢false, Option, Some, None, option_map, option_and_then}
use Rattle.std.specs.Cmp.{nat_cmp_total}
use Rattle.std.specs.FinMap.{nat_cmp-IsAntisymmetric}
use Rattle.std.specs.List.{list_any}
use Rattle.cg_maps.specs.FiniteMap.{keys, entries, is_nonempty}
use Rattle.cg_maps.proofs.Maps as maps
use Rattle.cg_name.specs.Order.{path_cmp_total, path_cmp_exact}
use Rattle.cg_name.specs.Path.{Path, is_root, same_path, is_prefix, is_above, is_parent}
use Rattle.cg_model.specs.Tree.{Tree, group, place_of, above, last_of, parent_group}
use Rattle.cg_model.specs.Derived.{children, is_in, is_in_subtree, processes, processes_in_subtree, available, has_freeze, down_to, is_frozen, is_populated, narrowed_along, effective_cpus}
use Rattle.cg_model_laws.specs.Covers.{within, SameAround}
use Rattle.cg_model_laws.proofs.Paths.{same_path-is, prefix_itself, above-prefix, parent-prefix, comparable_down, comparable_up, along_same}

module _ {p : Path} {T U : Tree} (same : SameAround p T U) where
  pub group_same : group T p ≡ group U p
  group_same = same.groups p (comparable_down p p (prefix_itself p))

  pub group_above : (a : Path) → is_above a p ≡ true → group T a ≡ group U a
  group_above a e = same.groups a (comparable_up p a (above-prefix a p e))

  pub above_same : above T p ≡ above U p
  above_same = along_same (group T) (group U) p group_above

  pub parent_same : parent_group T p ≡ parent_group U p
  parent_same = ap last_of above_same

  kept_child : (q : Path) (b : Bool) → is_parent p q ≡ b → cond b (group T q) None ≡ cond b (group U q) None
  kept_child q true e = same.groups q (comparable_down p q (parent-prefix p q e))
  kept_child q false e = refl

  pub children_same : children T p ≡ children U p
  unfolding children
  children_same = ap entries (maps.same_retained path_cmp_total path_cmp_exact T.groups U.groups (is_parent p) (is_parent p) (λ q. kept_child q (is_parent p q) refl))

  pub processes_in_subtree_same : processes_in_subtree T p ≡ processes_in_subtree U p
  unfolding processes_in_subtree
  processes_in_subtree_same = ap keys (maps.same_retained nat_cmp_total nat_cmp-IsAntisymmetric T.places U.places _ _ (λ k. below (place_of T k) ∙ same.places k ∙ sym (below (place_of U k))))
    where
      below : (o : Option Path) → cond (is_in_subtree p o) o None ≡ within p o
      below None = refl
      below (Some q) = refl

  pub processes_same : processes T p ≡ processes U p
  unfolding processes
  processes_same = ap keys (maps.same_retained nat_cmp_total nat_cmp-IsAntisymmetric T.places U.places _ _ (λ k. own (place_of T k) ∙ ap (λ o. cond (is_in p o) o None) (same.places k) ∙ sym (own (place_of U k))))
    where
      inside : (q : Path) (b c : Bool) → is_prefix p q ≡ b → same_path p q ≡ c → cond c (Some q) None ≡ cond (is_in p (cond b (Some q) None)) (cond b (Some q) None) None
      inside q true c e f = ap (λ x. cond x (Some q) None) (sym f)
      inside q false true e f = absurd (true≢false (sym (subst (λ x. is_prefix p x ≡ true) (same_path-is p q f) (prefix_itself p)) ∙ e))
      inside q false false e f = refl

      own : (o : Option Path) → cond (is_in p o) o None ≡ cond (is_in p (within p o)) (within p o) None
      own None = refl
      own (Some q) = inside q (is_prefix p q) (same_path p q) refl refl

  pub populated_same : is_populated T p ≡ is_populated U p
  populated_same = ap is_nonempty processes_in_subtree_same

  down_same : down_to T p ≡ down_to U p
  down_same = λ i. drop 1 (above_same i ++ group_same i ∷ [])

  pub frozen_same : is_frozen T p ≡ is_frozen U p
  frozen_same = ap (list_any has_freeze) down_same

  pub effective_same : effective_cpus T p ≡ effective_cpus U p
  effective_same = λ i. narrowed_along (same.online i) (down_same i)

  pub available_same : T.controllers ≡ U.controllers → available T p ≡ available U p
  available_same e = λ i. option_and_then (λ s. cond (is_root p) (Some (e i)) (option_map (λ u. u.control) (parent_same i))) (group_same i)
