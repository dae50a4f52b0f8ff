-- Locality: trees that agree on the footprint of a command give the same effect and the same footprint.
use Rattle.std.proofs.Common.{◌≡◌, Bool, true, cond, [], ◌∷◌, length, ◌-◌, refl, ap, ◌∙◌, Option, Some, None}
use Rattle.std.specs.List.{list_any}
use Rattle.cg_maps.specs.FiniteMap.{is_nonempty}
use Rattle.cg_name.specs.Path.{Path, is_above}
use Rattle.cg_text.specs.declared.limit.Limit.TheVariants.{Max, UpTo}
use Rattle.cg_text.specs.declared.settings.Settings.{Settings}
use Rattle.cg_model.specs.Tree.{Tree, group}
use Rattle.cg_model.specs.Derived.{descendants}
use Rattle.cg_model.specs.Key as keys
use Rattle.cg_model.specs.Command.{Command, Create, Remove, Migrate, Subtree, Freeze, Cpus, Show, Online, MaxDescendants, MaxDepth}
use Rattle.cg_model.specs.Groups.{reaches, reaches_descendants, exceeds_depth, any_above, too_many, too_deep, create_effect, remove_effect}
use Rattle.cg_model.specs.Control.{subtree_effect}
use Rattle.cg_model.specs.Writes.{migrate_effect, freeze_effect, cpus_effect, limit_effect, online_effect, show_effect}
use Rattle.cg_model.specs.File.{file_seen}
use Rattle.cg_model.specs.Effect.{effect}
use Rattle.cg_model.specs.Footprint.{X, N, Pid, Count, is_finite, count_of, joined_marks, counts, old_place, footprint}
use Rattle.cg_model_laws.specs.Covers.{SameAround, Agree, AgreeOn}
use Rattle.cg_model_laws.proofs.Paths.{along_same}
use Rattle.cg_model_laws.proofs.Marks.{all_along}
use Rattle.cg_model_laws.proofs.Seen.{group_same, group_above, parent_same, children_same, processes_same, populated_same, frozen_same, effective_same, available_same}

-- tests that say the same of each path above p
any_same : (f g : Path → Bool) (p : Path) → ((a : Path) → is_above a p ≡ true → f a ≡ g a) → any_above f p ≡ any_above g p
any_same f g p h = ap (list_any (λ b. b)) (along_same f g p h)

module _ (T U : Tree) where
  full_same : (a : Path) (s : Option Settings) → AgreeOn (count_of a s) T U → reaches_descendants s (descendants T a) ≡ reaches_descendants s (descendants U a)
  full_same a None h = refl
  full_same a (Some s) h =
      elim s.max_descendants as (λ l. AgreeOn (cond (is_finite l) (Count a ∷ []) []) T U → reaches l (descendants T a) ≡ reaches l (descendants U a)) [
        | Max ↦ λ h. refl
        | UpTo n ↦ λ h. ap (reaches (UpTo n)) h.0
      ] h

  many_same : (p : Path) → SameAround p T U → AgreeOn (counts T p) T U → too_many T p ≡ too_many U p
  many_same p same h = any_same _ _ p (λ a e. full_same a (group T a) (all_along (λ m. Agree m T U) _ p a e h) ∙ ap (λ s. reaches_descendants s (descendants U a)) (group_above same a e))

  deep_same : (p : Path) → SameAround p T U → too_deep T p ≡ too_deep U p
  deep_same p same = any_same _ _ p (λ a e. ap (λ s. exceeds_depth s (length p - length a)) (group_above same a e))

  pub effect_same : T.controllers ≡ U.controllers → (c : Command) → AgreeOn (footprint c T) T U → effect c T ≡ effect c U
  unfolding effect footprint
  effect_same machine (Create p) h = λ i. create_effect p (parent_same h.0 i) (group_same h.0 i) (many_same p h.0 h.1 i) (deep_same p h.0 i)
  effect_same machine (Remove p) h = λ i. remove_effect p (group_same h.0 i) (is_nonempty (children_same h.0 i)) (is_nonempty (processes_same h.0 i))
  effect_same machine (Migrate k p) h = λ i. migrate_effect k p (h.0 i) (h.1.0 i)
  effect_same machine (Subtree p ops) h = λ i. subtree_effect p ops (group_same h.0 i) (available_same h.0 machine i) (children_same h.0 i) (is_nonempty (processes_same h.0 i))
  effect_same machine (Freeze p v) h = λ i. freeze_effect p v (group_same h.0 i)
  effect_same machine (Cpus p v) h = λ i. cpus_effect p v (group_same h.0 i) (available_same h.0 machine i)
  effect_same machine (Show p f) h = let s = h.0 in λ i. show_effect (file_seen p f (group_same s i) (available_same s machine i) (processes_same s i) (populated_same s i) (frozen_same s i) (effective_same s i))
  effect_same machine (Online v) h = λ i. online_effect v (h.0.online i)
  effect_same machine (MaxDescendants p v) h = λ i. limit_effect p keys.MaxDescendants v (group_same h.0 i)
  effect_same machine (MaxDepth p v) h = λ i. limit_effect p keys.MaxDepth v (group_same h.0 i)

  counts_same : (p : Path) → SameAround p T U → counts T p ≡ counts U p
  counts_same p same = ap joined_marks (along_same _ _ p (λ a e. ap (count_of a) (group_above same a e)))

  pub footprint_same : (c : Command) → AgreeOn (footprint c T) T U → footprint c T ≡ footprint c U
  unfolding footprint
  footprint_same (Create p) h = ap (λ f. X p ∷ f) (counts_same p h.0)
  footprint_same (Remove p) h = ap (λ f. X p ∷ f) (counts_same p h.0)
  footprint_same (Migrate k p) h = ap (λ o. Pid k ∷ N p ∷ old_place o) h.0
  footprint_same c h = refl
