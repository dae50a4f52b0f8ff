-- The changes of writing cgroup.subtree_control are lawful: the children's CPUs are emptied one by one, and the control comes last.
use Rattle.std.proofs.Common.{◌≡◌, Bool, true, false, cond, ◌&&◌, List, [], ◌∷◌, ◌≢◌, refl, ap, ◌∙◌, Option, Some, None, option_map}
use Rattle.std.proofs.lemmas.Bool.{both_ways, or_from, or_left, and_left, and_right, false_from_ne_true}
use Rattle.std.proofs.lemmas.Option.{none-some}
use Rattle.std.specs.List.{AllByRecursion}
use Rattle.cg_maps.specs.FiniteMap.{empty}
use Rattle.cg_maps.specs.FiniteSet.{is_empty_set}
use Rattle.cg_maps.proofs.Maps as maps
use Rattle.cg_name.specs.Order.{path_cmp_total}
use Rattle.cg_name.specs.Path.{Path, same_path, is_prefix, is_parent, comparable}
use Rattle.cg_text.specs.declared.controllers.Controllers.{Controllers}
use Rattle.cg_text.specs.declared.settings.Settings.{Settings}
use Rattle.cg_model.specs.Tree.{Tree, group}
use Rattle.cg_model.specs.Derived.{children}
use Rattle.cg_model.specs.Key.{Field, Control, Cpus, Setting, setting, Part, value_at, put, part_replaced, touch}
use Rattle.cg_model.specs.Change.{Change, change}
use Rattle.cg_model.specs.Control.{emptied, loses_cpuset, control_change, controlled}
use Rattle.cg_model.specs.Footprint.{X, S, N, Pid, Count}
use Rattle.cg_model_laws.proofs.Lists.{all_map, all_with}
use Rattle.cg_model_laws.proofs.Paths.{same_path-apart, prefix_itself, prefix_trans, prefixes_of_one, parent-prefix, comparable_down}
use Rattle.cg_model_laws.proofs.Fields.{setting_there}
use Rattle.cg_model_laws.proofs.Keys.{group_here, put_apart}
use Rattle.cg_model_laws.proofs.Marks.{same_path-swapped}
use Rattle.cg_model_laws.proofs.Lawful.{Under, IsNoGroup, IsLawful}
use Rattle.cg_model_laws.proofs.Parents.{child_facts, children_differ}

-- the mark of a group covers that of a group below it
narrower : (p c q : Path) → is_prefix p c ≡ true → comparable p q ≡ false → comparable c q ≡ false
narrower p c q e n =
    or_from _ _
    (false_from_ne_true _ (λ x. both_ways _ n (comparable_down p q (prefix_trans p c q e x))))
    (false_from_ne_true _ (λ y. both_ways _ n (prefixes_of_one p q c e y)))

narrower_prefix : (p c q : Path) → is_prefix p c ≡ true → is_prefix p q ≡ false → is_prefix c q ≡ false
narrower_prefix p c q e n = false_from_ne_true _ (λ x. both_ways _ n (prefix_trans p c q e x))

under_above : (p c : Path) → is_prefix p c ≡ true → Under (X p ∷ []) (X c)
under_above p c e (X q) a = narrower p c q e a.0
under_above p c e (S q) a = narrower p c q e a.0
under_above p c e (N q) a = narrower_prefix p c q e a.0
under_above p c e (Pid k) a = refl
under_above p c e (Count b) a = refl

abbrev CpusAre : Tree → Path × Settings → Type 0
CpusAre T e = value_at T (Part e.0 Cpus) ≡ Some e.1.cpus

module _ (p : Path) (s t : Controllers) where
  abbrev those : List (Path × Settings) → List Change
  those es = emptied es (control_change p s t)

  -- whether a child's CPUs are emptied, or it has none
  abbrev or_kept : Path × Settings → List Change → Bool → List Change
  or_kept e rest b = cond b rest (change (Part e.0 Cpus) (Some e.1.cpus) (Some empty) ∷ rest)

  -- what holds of the control's change, and of each that empties a child's CPUs
  all_changes : (P : Change → Type 0) (es : List (Path × Settings)) → AllByRecursion (λ e. P (change (Part e.0 Cpus) (Some e.1.cpus) (Some empty))) es → P (change (Part p Control) (Some s) (Some t)) → AllByRecursion P (those es)
  all_changes P [] h c = (c, tt)
  all_changes P (e ∷ es) h c =
      elim (is_empty_set e.1.cpus) as (λ b. AllByRecursion P (or_kept e (those es) b)) [
        | true ↦ all_changes P es h.1 c
        | false ↦ (h.0, all_changes P es h.1 c)
      ]

cpus_apart : (p q : Path) → p ≢ q → touch (Part p Cpus) (Part q Cpus) ≡ false
cpus_apart p q ne = and_left _ true (same_path-apart p q ne)

-- a setting of a present group takes a value
takes : (f : Field) (o : Option Settings) (w v : Setting f) → option_map (setting f) o ≡ Some w → option_map (setting f) (part_replaced f (Some v) o) ≡ Some v
takes f None w v e = absurd (none-some w e)
takes f (Some s) w v e = ap Some (setting_there f v s)

all_lawful : (p : Path) (s t : Controllers) (es : List (Path × Settings)) (T : Tree) → AllByRecursion (λ e. is_parent p e.0 ≡ true) es → AllByRecursion (CpusAre T) es → maps.KeysDiffer path_cmp_total es → value_at T (Part p Control) ≡ Some s → IsLawful (X p ∷ []) T (those p s t es)
all_lawful p s t [] T h v d c = (record { was = c; is = ap (option_map (setting Control)) (group_here T p _) ∙ takes Control (group T p) s t c; marked = or_left _ _ (prefix_itself p); covered = (λ n a. a.0, tt) }, tt, tt, tt)
all_lawful p s t (e ∷ es) T h v d c =
    let apart : AllByRecursion (λ f. touch (Part e.0 Cpus) (Part f.0 Cpus) ≡ false) es = all_map (λ f ne. cpus_apart e.0 f.0 ne) es d.0 in
    let after : Tree = put (Part e.0 Cpus) (Some empty) T in
    elim (is_empty_set e.1.cpus) as (λ b. IsLawful (X p ∷ []) T (or_kept p s t e (those p s t es) b)) [
      | true ↦ all_lawful p s t es T h.1 v.1 d.1 c
      | false ↦ (
        record { was = v.0; is = ap (option_map (setting Cpus)) (group_here T e.0 _) ∙ takes Cpus (group T e.0) e.1.cpus empty v.0; marked = or_left _ _ (parent-prefix p e.0 h.0); covered = (under_above p e.0 (parent-prefix p e.0 h.0), tt) },
        all_changes p s t (λ d. IsNoGroup d.key) es (all_map (λ f _. tt) es h.1) tt,
        all_changes p s t (λ d. touch (Part e.0 Cpus) d.key ≡ false) es apart (and_right (same_path e.0 p) false refl),
        all_lawful p s t es after h.1 (all_with (λ f c t. put_apart (Part f.0 Cpus) (Part e.0 Cpus) (Some empty) T (flipped e.0 f.0 t) ∙ c) es v.1 apart) d.1
            (put_apart (Part p Control) (Part e.0 Cpus) (Some empty) T (and_right (same_path p e.0) false refl) ∙ c),
      )
    ]
  where
    flipped : (a b : Path) → touch (Part a Cpus) (Part b Cpus) ≡ false → touch (Part b Cpus) (Part a Cpus) ≡ false
    flipped a b t = ap (λ x. x && true) (same_path-swapped b a) ∙ t

pub control_lawful : (T : Tree) (p : Path) (s : Settings) (t : Controllers) → group T p ≡ Some s → IsLawful (X p ∷ []) T (controlled p s.control t (children T p))
control_lawful T p s t e =
    let es : List (Path × Settings) = children T p in
    let facts : AllByRecursion (λ e. (is_parent p e.0 ≡ true) × (group T e.0 ≡ Some e.1)) es = child_facts T p in
    elim (loses_cpuset s.control t) as (λ b. IsLawful (X p ∷ []) T (emptied (cond b es []) (control_change p s.control t))) [
      | true ↦ all_lawful p s.control t es T (all_map (λ e h. h.0) es facts) (all_map (λ e h. ap (option_map (setting Cpus)) h.1) es facts) (children_differ T p) (ap (option_map (setting Control)) e)
      | false ↦ all_lawful p s.control t [] T tt tt tt (ap (option_map (setting Control)) e)
    ]
