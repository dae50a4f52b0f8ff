-- Puts: what was put is there, puts of keys that don't touch can be swapped, and a put of the value before undoes a put.
use Rattle.std.proofs.Common.{◌≡◌, ℕ, true, false, ◌&&◌, ◌==◌, ◌≢◌, refl, sym, ap, subst, ◌∙◌, inl, inr, true≢false, Option, Some, None, option_map, eq-eqb}
use Rattle.std.specs.Option.{is_some}
use Rattle.std.specs.Cmp.{IsTotalOrder, nat_cmp_total}
use Rattle.std.specs.FinMap.{IsAntisymmetric, nat_cmp-IsAntisymmetric}
use Rattle.std.specs.declared.cmp.Ordering.{Ordering}
use Rattle.cg_maps.specs.FiniteMap.{FiniteMap, get, set_at}
use Rattle.cg_maps.proofs.Maps as maps
use Rattle.cg_name.specs.Order.{path_cmp_total, path_cmp_exact}
use Rattle.cg_name.specs.Path.{Path}
use Rattle.cg_text.specs.declared.settings.Settings.{Settings}
use Rattle.cg_model.specs.Tree.{Tree, group, place_of}
use Rattle.cg_model.specs.Key.{Field, Setting, setting, Key, Group, Place, Part, Online, ValueOf, value_at, replaced, part_replaced, put, same_field, touch}
use Rattle.cg_model_laws.specs.Laws.{CanHold}
use Rattle.cg_model_laws.proofs.Fields.{part_swap, part_other, part_back, part_there}
use Rattle.cg_model_laws.proofs.Paths.{same_path-from, paths_differ, path_cases}

-- the groups and the places after they are set
module _ (T : Tree) where
  abbrev pub with_group : Path → Option Settings → Tree
  with_group p v = record T { groups = set_at T.groups p v }

  abbrev pub with_place : ℕ → Option Path → Tree
  with_place k v = record T { places = set_at T.places k v }

pub group_here : (T : Tree) (p : Path) (v : Option Settings) → group (with_group T p v) p ≡ v
group_here T p v = maps.get_here path_cmp_total path_cmp_exact T.groups p v

pub group_apart : (T : Tree) (p : Path) (v : Option Settings) (q : Path) → (q ≢ p) → group (with_group T p v) q ≡ group T q
group_apart T p v q ne = maps.get_apart path_cmp_total path_cmp_exact T.groups p v q ne

pub place_here : (T : Tree) (k : ℕ) (v : Option Path) → place_of (with_place T k v) k ≡ v
place_here T k v = maps.get_here nat_cmp_total nat_cmp-IsAntisymmetric T.places k v

pub place_apart : (T : Tree) (k : ℕ) (v : Option Path) (l : ℕ) → (l ≢ k) → place_of (with_place T k v) l ≡ place_of T l
place_apart T k v l ne = maps.get_apart nat_cmp_total nat_cmp-IsAntisymmetric T.places k v l ne

-- ---- one entry of a map is made anew from what it was

abbrev remade : {K X : Type 0} {R : K → K → Ordering} → FiniteMap R X → K → (Option X → Option X) → FiniteMap R X
remade m k h = set_at m k (h (get m k))

module _ {K X : Type 0} {R : K → K → Ordering} (o : IsTotalOrder R) (same : IsAntisymmetric R) (m : FiniteMap R X) where
  remade-remade : (k : K) (h g : Option X → Option X) → remade (remade m k h) k g ≡ set_at m k (g (h (get m k)))
  remade-remade k h g = maps.set_set o same m k _ _ ∙ ap (λ x. set_at m k (g x)) (maps.get_here o same m k _)

  remade_back : (k : K) (h g : Option X → Option X) → g (h (get m k)) ≡ get m k → remade (remade m k h) k g ≡ m
  remade_back k h g e = remade-remade k h g ∙ ap (set_at m k) e ∙ maps.set_same o same m k

  remade_here : (k : K) (h g : Option X → Option X) → g (h (get m k)) ≡ h (g (get m k)) → remade (remade m k h) k g ≡ remade (remade m k g) k h
  remade_here k h g e = remade-remade k h g ∙ ap (set_at m k) e ∙ sym (remade-remade k g h)

  remade_swap : (k l : K) (h g : Option X → Option X) → k ≢ l → remade (remade m k h) l g ≡ remade (remade m l g) k h
  remade_swap k l h g ne =
      ap (λ x. set_at (remade m k h) l (g x)) (maps.get_apart o same m k _ l (λ e. ne (sym e)))
      ∙ maps.set_swap o same m k l _ _ ne
      ∙ ap (λ x. set_at (remade m l g) k (h x)) (sym (maps.get_apart o same m l _ k ne))

place_back : (o v : Option Path) → replaced (replaced o v) o ≡ o
place_back None v = refl
place_back (Some x) None = refl
place_back (Some x) (Some v) = refl

-- ---- puts

-- the value before undoes a put
pub put_back : (k : Key) (v : Option (ValueOf k)) (T : Tree) → put k (value_at T k) (put k v T) ≡ T
put_back (Group p) v T = ap (λ m. record T { groups = m }) (remade_back path_cmp_total path_cmp_exact T.groups p (λ _. v) (λ _. group T p) refl)
put_back (Place k) v T = ap (λ m. record T { places = m }) (remade_back nat_cmp_total nat_cmp-IsAntisymmetric T.places k (λ o. replaced o v) (λ o. replaced o (place_of T k)) (place_back (place_of T k) v))
put_back (Part p f) v T = ap (λ m. record T { groups = m }) (remade_back path_cmp_total path_cmp_exact T.groups p (part_replaced f v) (part_replaced f (option_map (setting f) (group T p))) (part_back f v (group T p)))
put_back Online None T = refl
put_back Online (Some v) T = refl

replaced_there : (o v : Option Path) → is_some o ≡ true → is_some v ≡ true → replaced o v ≡ v
replaced_there None v h k = absurd (true≢false (sym h))
replaced_there (Some x) None h k = absurd (true≢false (sym k))
replaced_there (Some x) (Some v) h k = refl

-- a key holds what is put there, where it can
pub put_there : (k : Key) (v : Option (ValueOf k)) (T : Tree) → CanHold T k v → value_at (put k v T) k ≡ v
put_there (Group p) v T h = group_here T p v
put_there (Place k) v T h = place_here T k _ ∙ replaced_there (place_of T k) v h.0 h.1
put_there (Part p f) v T h = ap (option_map (setting f)) (group_here T p _) ∙ part_there f v (group T p) h.0 h.1
put_there Online None T h = absurd (true≢false (sym h.1))
put_there Online (Some v) T h = refl

module _ (T : Tree) where
  -- nothing is put where nothing is
  pub part_absent : (p : Path) (f : Field) (v : Option (Setting f)) → group T p ≡ None → put (Part p f) v T ≡ T
  part_absent p f v e =
      ap (λ s. with_group T p (part_replaced f v s)) e
      ∙ ap (with_group T p) (sym e)
      ∙ ap (λ m. record T { groups = m }) (maps.set_same path_cmp_total path_cmp_exact T.groups p)

  pub place_absent : (k : ℕ) (v : Option Path) → place_of T k ≡ None → put (Place k) v T ≡ T
  place_absent k v e =
      ap (λ o. with_place T k (replaced o v)) e
      ∙ ap (with_place T k) (sym e)
      ∙ ap (λ m. record T { places = m }) (maps.set_same nat_cmp_total nat_cmp-IsAntisymmetric T.places k)

-- two settings of one group that don't touch are two fields
fields_differ : (p q : Path) (f g : Field) → p ≡ q → touch (Part p f) (Part q g) ≡ false → same_field f g ≡ false
fields_differ p q f g is e = ap (λ b. b && same_field f g) (sym (same_path-from p q is)) ∙ e

numbers_differ : (k l : ℕ) → (k == l) ≡ false → k ≢ l
numbers_differ k l e is = true≢false (sym (eq-eqb k l is) ∙ e)

-- a put leaves what doesn't touch its key
pub put_apart : (k l : Key) (w : Option (ValueOf l)) (T : Tree) → touch k l ≡ false → value_at (put l w T) k ≡ value_at T k
put_apart (Group p) (Group q) w T e = group_apart T q w p (paths_differ p q e)
put_apart (Group p) (Part q g) w T e = group_apart T q _ p (paths_differ p q e)
put_apart (Part p f) (Group q) w T e = ap (option_map (setting f)) (group_apart T q w p (paths_differ p q e))
put_apart (Part p f) (Part q g) w T e = elim (path_cases p q) [
  | inl is ↦ subst (λ x. option_map (setting f) (group (put (Part x g) w T) p) ≡ option_map (setting f) (group T p)) is (ap (option_map (setting f)) (group_here T p _) ∙ part_other f g w (group T p) (fields_differ p q f g is e))
  | inr ne ↦ ap (option_map (setting f)) (group_apart T q _ p ne)
]
put_apart (Place k) (Place l) w T e = place_apart T l _ k (numbers_differ k l e)
put_apart Online Online w T e = absurd (true≢false e)
put_apart k l w T e = refl

abbrev regroup : Path → (Option Settings → Option Settings) → Tree → Tree
regroup p h T = with_group T p (h (group T p))

groups_swap : (p q : Path) (h g : Option Settings → Option Settings) (T : Tree) → p ≢ q → regroup q g (regroup p h T) ≡ regroup p h (regroup q g T)
groups_swap p q h g T ne = ap (λ m. record T { groups = m }) (remade_swap path_cmp_total path_cmp_exact T.groups p q h g ne)

-- puts of keys that don't touch can be swapped
pub put_swap : (k l : Key) (v : Option (ValueOf k)) (w : Option (ValueOf l)) (T : Tree) → touch k l ≡ false → put l w (put k v T) ≡ put k v (put l w T)
put_swap (Group p) (Group q) v w T e = groups_swap p q (λ _. v) (λ _. w) T (paths_differ p q e)
put_swap (Group p) (Part q g) v w T e = groups_swap p q (λ _. v) (part_replaced g w) T (paths_differ p q e)
put_swap (Part p f) (Group q) v w T e = groups_swap p q (part_replaced f v) (λ _. w) T (paths_differ p q e)
put_swap (Part p f) (Part q g) v w T e = elim (path_cases p q) [
  | inl is ↦ subst (λ x. put (Part x g) w (put (Part p f) v T) ≡ put (Part p f) v (put (Part x g) w T)) is
      (ap (λ m. record T { groups = m }) (remade_here path_cmp_total path_cmp_exact T.groups p (part_replaced f v) (part_replaced g w) (sym (part_swap f g v w (group T p) (fields_differ p q f g is e)))))
  | inr ne ↦ groups_swap p q (part_replaced f v) (part_replaced g w) T ne
]
put_swap (Place k) (Place l) v w T e = ap (λ m. record T { places = m }) (remade_swap nat_cmp_total nat_cmp-IsAntisymmetric T.places k l (λ o. replaced o v) (λ o. replaced o w) (numbers_differ k l e))
put_swap Online Online v w T e = absurd (true≢false e)
put_swap k l v w T e = refl
