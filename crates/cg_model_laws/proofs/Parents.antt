-- Parents and children: of paths, and of a tree's groups.
use Rattle.std.proofs.Common.{◌≡◌, ℕ, Bool, true, false, cond, [], ◌∷◌, ◌≢◌, refl, sym, ap, subst, ◌∙◌, Option, Some, None, option_map, option_and_then}
use Rattle.std.specs.List.{AllByRecursion, list_any}
use Rattle.std.specs.Cmp.{nat_cmp_total}
use Rattle.std.specs.FinMap.{nat_cmp-IsAntisymmetric}
use Rattle.std.proofs.lemmas.Bool.{and_parts, and_from, and_right}
use Rattle.std.proofs.lemmas.Option.{none-some}
use Rattle.cg_maps.specs.FiniteMap.{get, retain, is_nonempty}
use Rattle.cg_maps.proofs.Maps as maps
use Rattle.cg_name.specs.Name.{Name}
use Rattle.cg_name.specs.Path.{Path, is_parent, along}
use Rattle.cg_name.specs.Order.{path_cmp_total, path_cmp_exact}
use Rattle.cg_text.specs.declared.settings.Settings.{Settings}
use Rattle.cg_model.specs.Tree.{Tree, group, place_of, last_of, parent_group}
use Rattle.cg_model.specs.Derived.{children, processes, is_in, available}
use Rattle.cg_name.proofs.Packing.{same_name-is, same_name-itself}
use Rattle.cg_model_laws.proofs.Paths.{never, same_path-itself}

-- ---- of paths

pub not_its_parent : (p : Path) → is_parent p p ≡ false
not_its_parent [] = refl
not_its_parent (n ∷ p) = and_right _ _ (not_its_parent p)

pub parent_differs : (p q : Path) → is_parent p q ≡ true → p ≢ q
parent_differs p q e is = never (sym (not_its_parent p) ∙ subst (λ x. is_parent p x ≡ true) (sym is) e)

pub not_parents_of_each_other : (p q : Path) → is_parent q p ≡ true → is_parent p q ≡ false
not_parents_of_each_other [] q e = never e
not_parents_of_each_other (n ∷ p) [] e = refl
not_parents_of_each_other (n ∷ p) (m ∷ q) e = and_right _ _ (not_parents_of_each_other p q (and_parts _ _ e).1)

pub parent_exists : (n : Name) (p : Path) → (q : Path) × (is_parent q (n ∷ p) ≡ true)
parent_exists n [] = ([], refl)
parent_exists n (m ∷ p) = let (q, e) = parent_exists m p in (n ∷ q, and_from _ _ (same_name-itself n) e)

-- the last of what stands along q is at its parent
pub last_is_parent : {A : Type 0} (f : Path → Option A) (p q : Path) → is_parent p q ≡ true → last_of (along f q) ≡ f p
last_is_parent f p [] e = never e
last_is_parent f [] (m ∷ []) e = refl
last_is_parent f [] (m ∷ (l ∷ q)) e = never e
last_is_parent f (n ∷ p) (m ∷ []) e = never (and_parts _ _ e).1
last_is_parent f (n ∷ p) (m ∷ (l ∷ q)) e =
    let (names, rest) = and_parts _ _ e in
    last_is_parent (λ x. f (m ∷ x)) p (l ∷ q) rest ∙ ap (λ x. f (x ∷ p)) (sym (same_name-is n m names))

-- ---- of a tree's groups

kept_child : (b : Bool) (o : Option Settings) (s : Settings) → cond b o None ≡ Some s → (b ≡ true) × (o ≡ Some s)
kept_child true o s e = (refl, e)
kept_child false o s e = absurd (none-some s e)

module _ (T : Tree) where
  pub child_facts : (p : Path) → AllByRecursion (λ e. (is_parent p e.0 ≡ true) × (group T e.0 ≡ Some e.1)) (children T p)
  unfolding children
  child_facts p = maps.all_map (λ e h. kept_child (is_parent p e.0) (group T e.0) e.1 (sym (maps.get-retain path_cmp_total path_cmp_exact T.groups (is_parent p) e.0) ∙ h)) _
      (maps.each_entry path_cmp_total (retain T.groups (is_parent p)))

  pub children_differ : (p : Path) → maps.KeysDiffer path_cmp_total (children T p)
  unfolding children
  children_differ p = maps.keys_differ path_cmp_total (retain T.groups (is_parent p))

  kept_group : (p q : Path) → is_parent p q ≡ true → get (retain T.groups (is_parent p)) q ≡ group T q
  kept_group p q a = maps.get-retain path_cmp_total path_cmp_exact T.groups (is_parent p) q ∙ ap (λ b. cond b (group T q) None) a

  -- a child passes a test, so some child does
  pub child_passes : (p q : Path) (s : Settings) (test : Path × Settings → Bool) → is_parent p q ≡ true → group T q ≡ Some s → test (q, s) ≡ true
      → list_any test (children T p) ≡ true
  unfolding children
  child_passes p q s test a g h = maps.entry_passes path_cmp_exact (retain T.groups (is_parent p)) test q s (kept_group p q a ∙ g) h

  pub no_child : (p q : Path) (s : Settings) → is_nonempty (children T p) ≡ false → is_parent p q ≡ true → group T q ≡ Some s → ⊥
  unfolding children
  no_child p q s none a g = none-some s (sym (maps.none_in_entries (retain T.groups (is_parent p)) q none) ∙ kept_group p q a ∙ g)

  pub no_process : (p : Path) (k : ℕ) → is_nonempty (processes T p) ≡ false → place_of T k ≡ Some p → ⊥
  unfolding processes
  no_process p k none h =
      let own : ℕ → Bool = λ j. is_in p (place_of T j) in
      none-some p (sym (maps.none_in_keys (retain T.places own) k none) ∙ maps.get-retain nat_cmp_total nat_cmp-IsAntisymmetric T.places own k
      ∙ ap (λ o. cond (is_in p o) o None) h ∙ ap (λ b. cond b (Some p) None) (same_path-itself p))

  -- what the parent passes on is available, and to the root what the machine has
  pub available_below : (p q : Path) (s u : Settings) → group T p ≡ Some s → is_parent q p ≡ true → group T q ≡ Some u → available T p ≡ Some u.control
  available_below [] q s u e a g = never a
  available_below (n ∷ p) q s u e a g =
      ap (option_and_then (λ (x : Settings). option_map (λ y. y.control) (parent_group T (n ∷ p)))) e
      ∙ ap (option_map (λ y. y.control)) (last_is_parent (group T) q (n ∷ p) a ∙ g)

  pub available_root : (s : Settings) → group T [] ≡ Some s → available T [] ≡ Some T.controllers
  available_root s e = ap (option_and_then (λ (x : Settings). Some T.controllers)) e
