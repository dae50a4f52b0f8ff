-- The ten commands case by case: what is shown of each refusal, and of what each command does where it is accepted, holds of
-- what it does to any tree.
use Rattle.std.proofs.Common.{◌≡◌, ℕ, Bool, true, false, not, ◌&&◌, List, [], ◌∷◌, refl, Option, Some, None}
use Rattle.std.proofs.lemmas.Bool.{cond_both}
use Rattle.cg_maps.specs.FiniteMap.{is_nonempty}
use Rattle.cg_maps.specs.FiniteSet.{FiniteSet}
use Rattle.cg_name.specs.Name.{Name}
use Rattle.cg_name.specs.Path.{Path, is_root}
use Rattle.cg_name.specs.declared.refusal.Refusal.{Refusal}
use Rattle.cg_name.specs.declared.refusal.Refusal.TheVariants.{NoGroup, Exists, IsRoot, HasChildren, HasProcesses, NoProcess, Controlled, Unavailable, InUse, NoFile, TooMany, TooDeep}
use Rattle.cg_text.specs.Controllers.{is_no_controllers}
use Rattle.cg_text.specs.Settings.{fresh}
use Rattle.cg_text.specs.declared.control_ops.ControlOps.{ControlOps}
use Rattle.cg_text.specs.declared.controllers.Controllers.{Controllers}
use Rattle.cg_name.specs.declared.file_name.FileName.{FileName}
use Rattle.cg_text.specs.declared.limit.Limit.{Limit}
use Rattle.cg_text.specs.declared.settings.Settings.{Settings}
use Rattle.cg_model.specs.Tree.{Tree, group, place_of, parent_group}
use Rattle.cg_model.specs.Derived.{children, processes, available, with_cpuset, is_frozen, is_populated, effective_cpus}
use Rattle.cg_model.specs.Sound.{admits}
use Rattle.cg_model.specs.Key as keys
use Rattle.cg_model.specs.Key.{Group, Place}
use Rattle.cg_model.specs.Change.{change}
use Rattle.cg_model.specs.System.{Done, Text, Refuse, Accept}
use Rattle.cg_model.specs.Command.{Command, Create, Remove, Migrate, Subtree, Freeze, Cpus, Show, Online, MaxDescendants, MaxDepth, Effect}
use Rattle.cg_model.specs.Groups.{create_effect, remove_effect}
use Rattle.cg_model.specs.Control.{planned, not_available, in_use, used_below, controlled, subtree_effect}
use Rattle.cg_model.specs.Writes.{migrate_effect, written, freeze_effect, cpus_effect, limit_effect, show_effect}
use Rattle.cg_model.specs.File.{or_no_file, file_seen}
use Rattle.cg_model.specs.Effect.{effect}
use Rattle.cg_model.specs.History.{is_own_check}
use Rattle.cg_model_laws.proofs.Plans.{planned_both}

-- P of what each command does to T: where it is refused, it is by its own checks; where it is accepted, these have passed
pub record EachCommand (T : Tree) (P : Command → Effect → Type 0) : Type 0 where
  pub refused : (c : Command) (r : Refusal) → is_own_check r ≡ true → P c (Refuse r)
  pub created : (n : Name) (p : Path) (u : Settings) → group T (n ∷ p) ≡ None → parent_group T (n ∷ p) ≡ Some u
      → P (Create (n ∷ p)) (Accept Done (change (Group (n ∷ p)) None (Some fresh) ∷ []))
  pub removed : (n : Name) (p : Path) (s : Settings) → group T (n ∷ p) ≡ Some s
      → is_nonempty (children T (n ∷ p)) ≡ false → is_nonempty (processes T (n ∷ p)) ≡ false
      → P (Remove (n ∷ p)) (Accept Done (change (Group (n ∷ p)) (Some s) None ∷ []))
  pub moved : (k : ℕ) (p q : Path) (s : Settings) → place_of T k ≡ Some q → group T p ≡ Some s → admits p s ≡ true
      → P (Migrate k p) (Accept Done (change (Place k) (Some q) (Some p) ∷ []))
  pub controls : (p : Path) (ops : ControlOps) (s : Settings) (a : Controllers) → group T p ≡ Some s → available T p ≡ Some a
      → not_available a s.control ops ≡ [] → in_use s.control ops (used_below (children T p)) ≡ []
      → (not (is_root p) && is_nonempty (processes T p) && not (is_no_controllers (planned s.control ops))) ≡ false
      → P (Subtree p ops) (Accept Done (controlled p s.control (planned s.control ops) (children T p)))
  pub freezes : (n : Name) (p : Path) (v : Bool) (s : Settings) → group T (n ∷ p) ≡ Some s → P (Freeze (n ∷ p) v) (written (n ∷ p) keys.Freeze v s)
  pub asks : (n : Name) (p : Path) (v : FiniteSet) (s : Settings) → group T (n ∷ p) ≡ Some s → with_cpuset (available T (n ∷ p)) ≡ true
      → P (Cpus (n ∷ p) v) (written (n ∷ p) keys.Cpus v s)
  pub shows : (p : Path) (f : FileName) (text : List ℕ) → P (Show p f) (Accept (Text text) [])
  pub goes_online : (v : FiniteSet) → P (Online v) (Accept Done (change keys.Online (Some T.online) (Some v) ∷ []))
  pub limits_descendants : (p : Path) (v : Limit) (s : Settings) → group T p ≡ Some s → P (MaxDescendants p v) (written p keys.MaxDescendants v s)
  pub limits_depth : (p : Path) (v : Limit) (s : Settings) → group T p ≡ Some s → P (MaxDepth p v) (written p keys.MaxDepth v s)

module _ (T : Tree) (P : Command → Effect → Type 0) (each : EachCommand T P) where
  create : (p : Path) (parent own : Option Settings) (many deep : Bool) → group T p ≡ own → parent_group T p ≡ parent
      → P (Create p) (create_effect p parent own many deep)
  create [] parent own many deep e g = each.refused (Create []) Exists refl
  create (n ∷ p) None own many deep e g = each.refused (Create (n ∷ p)) NoGroup refl
  create (n ∷ p) (Some u) (Some s) many deep e g = each.refused (Create (n ∷ p)) Exists refl
  create (n ∷ p) (Some u) None true deep e g = each.refused (Create (n ∷ p)) TooMany refl
  create (n ∷ p) (Some u) None false true e g = each.refused (Create (n ∷ p)) TooDeep refl
  create (n ∷ p) (Some u) None false false e g = each.created n p u e g

  remove : (p : Path) (own : Option Settings) (parental crowded : Bool) → group T p ≡ own
      → is_nonempty (children T p) ≡ parental → is_nonempty (processes T p) ≡ crowded
      → P (Remove p) (remove_effect p own parental crowded)
  remove [] own parental crowded e x y = each.refused (Remove []) IsRoot refl
  remove (n ∷ p) None parental crowded e x y = each.refused (Remove (n ∷ p)) NoGroup refl
  remove (n ∷ p) (Some s) true crowded e x y = each.refused (Remove (n ∷ p)) HasChildren refl
  remove (n ∷ p) (Some s) false true e x y = each.refused (Remove (n ∷ p)) HasProcesses refl
  remove (n ∷ p) (Some s) false false e x y = each.removed n p s e x y

  migrate : (k : ℕ) (p : Path) (from : Option Path) (own : Option Settings) → place_of T k ≡ from → group T p ≡ own → P (Migrate k p) (migrate_effect k p from own)
  migrate k p None own e g = each.refused (Migrate k p) NoProcess refl
  migrate k p (Some q) None e g = each.refused (Migrate k p) NoGroup refl
  migrate k p (Some q) (Some s) e g =
      cond_both (admits p s) (Accept Done (change (Place k) (Some q) (Some p) ∷ [])) (Refuse Controlled) (P (Migrate k p))
      (each.moved k p q s e g) (λ _. each.refused (Migrate k p) Controlled refl)

  subtree : (p : Path) (ops : ControlOps) (own : Option Settings) (offered : Option Controllers) → group T p ≡ own → available T p ≡ offered
      → P (Subtree p ops) (subtree_effect p ops own offered (children T p) (is_nonempty (processes T p)))
  subtree p ops None offered e g = each.refused (Subtree p ops) NoGroup refl
  subtree p ops (Some s) None e g = each.refused (Subtree p ops) NoGroup refl
  subtree p ops (Some s) (Some a) e g =
      planned_both (P (Subtree p ops)) p s.control (children T p) a ops (used_below (children T p)) (is_nonempty (processes T p)) (is_root p)
      (λ c. each.refused (Subtree p ops) (Unavailable c) refl) (λ c. each.refused (Subtree p ops) (InUse c) refl)
      (each.refused (Subtree p ops) HasProcesses refl) (each.controls p ops s a e g)

  freeze : (p : Path) (v : Bool) (own : Option Settings) → group T p ≡ own → P (Freeze p v) (freeze_effect p v own)
  freeze p v None e = each.refused (Freeze p v) NoGroup refl
  freeze [] v (Some s) e = each.refused (Freeze [] v) NoFile refl
  freeze (n ∷ p) v (Some s) e = each.freezes n p v s e

  cpus : (p : Path) (v : FiniteSet) (own : Option Settings) → group T p ≡ own → P (Cpus p v) (cpus_effect p v own (available T p))
  cpus p v None e = each.refused (Cpus p v) NoGroup refl
  cpus [] v (Some s) e = each.refused (Cpus [] v) NoFile refl
  cpus (n ∷ p) v (Some s) e =
      cond_both (with_cpuset (available T (n ∷ p))) (written (n ∷ p) keys.Cpus v s) (Refuse NoFile) (P (Cpus (n ∷ p) v))
      (each.asks n p v s e) (λ _. each.refused (Cpus (n ∷ p) v) NoFile refl)

  descendants_limit : (p : Path) (v : Limit) (own : Option Settings) → group T p ≡ own → P (MaxDescendants p v) (limit_effect p keys.MaxDescendants v own)
  descendants_limit p v None e = each.refused (MaxDescendants p v) NoGroup refl
  descendants_limit p v (Some s) e = each.limits_descendants p v s e

  depth_limit : (p : Path) (v : Limit) (own : Option Settings) → group T p ≡ own → P (MaxDepth p v) (limit_effect p keys.MaxDepth v own)
  depth_limit p v None e = each.refused (MaxDepth p v) NoGroup refl
  depth_limit p v (Some s) e = each.limits_depth p v s e

  show : (p : Path) (f : FileName) (own : Option Settings)
      → P (Show p f) (show_effect (file_seen p f own (available T p) (processes T p) (is_populated T p) (is_frozen T p) (effective_cpus T p)))
  show p f None = each.refused (Show p f) NoGroup refl
  show p f (Some s) = show_text _
    where
      show_text : (text : Option (List ℕ)) → P (Show p f) (show_effect (or_no_file text))
      show_text None = each.refused (Show p f) NoFile refl
      show_text (Some text) = each.shows p f text

  pub of_each : (c : Command) → P c (effect c T)
  unfolding effect
  of_each (Create p) = create p _ _ _ _ refl refl
  of_each (Remove p) = remove p _ _ _ refl refl refl
  of_each (Migrate k p) = migrate k p _ _ refl refl
  of_each (Subtree p ops) = subtree p ops _ _ refl refl
  of_each (Freeze p v) = freeze p v _ refl
  of_each (Cpus p v) = cpus p v _ refl
  of_each (Show p f) = show p f (group T p)
  of_each (Online v) = each.goes_online v
  of_each (MaxDescendants p v) = descendants_limit p v _ refl
  of_each (MaxDepth p v) = depth_limit p v _ refl
