-- Finite maps as values: sorted lists of entries, so that maps are equal where they answer alike, and compute.
use Rattle.std.specs.Prelude.{◌≡◌, ℕ, Bool, true, false, not, ◌&&◌, T, List, [], ◌∷◌, map, length, Option, Some, None}
use mathlib.Core.Path.{refl, sym, ap, subst}
use mathlib.Core.HLevel.{Σ_prop_path}
use lib.Dec.{T_prop}
use Rattle.std.specs.declared.cmp.Ordering.{Ordering}
use Rattle.std.specs.Ordering.{eq_by_cmp, is_lt}
use Rattle.std.specs.FinMap.Entries.{find, put, is_sorted, below_all, where_key, is_sorted-where_key}

-- entries with ascending keys, none of them twice
pub record FiniteMap {K : Type 0} (R : K → K → Ordering) (X : Type 0) : Type 0 where
  pub list : List (K × X)
  pub sorted : T (is_sorted R list)

-- the entries with nothing at their keys
abbrev pub bare : {K X : Type 0} → List (K × X) → List (K × Unit {0})
bare [] = []
bare (e ∷ es) = (e.0, tt) ∷ bare es

-- a list has an item
abbrev pub is_nonempty {ℓ} : {A : Type ℓ} → List A → Bool
is_nonempty [] = false
is_nonempty (x ∷ xs) = true

module _ {K X : Type 0} (R : K → K → Ordering) where
  below-bare : (k : K) (es : List (K × X)) → below_all R k (bare es) ≡ below_all R k es
  below-bare k [] = refl
  below-bare k (e ∷ es) = ap (λ b. is_lt (R k e.0) && b) (below-bare k es)

  pub is_sorted-bare : (es : List (K × X)) → is_sorted R (bare es) ≡ is_sorted R es
  is_sorted-bare [] = refl
  is_sorted-bare (e ∷ es) = λ i. below-bare e.0 es i && is_sorted-bare es i

module _ {K X : Type 0} {R : K → K → Ordering} where
  -- maps with the same entries are equal
  pub same_list : (m n : FiniteMap R X) → m.list ≡ n.list → m ≡ n
  same_list m n e =
      let pairs : ◌≡◌ {A = (es : List (K × X)) × T (is_sorted R es)} (m.list, m.sorted) (n.list, n.sorted) = Σ_prop_path (λ es. T_prop _) e in
      λ i. record { list = (pairs i).0; sorted = (pairs i).1 }

  -- the map with no entry
  unfoldable pub empty : FiniteMap R X
  empty = record { list = []; sorted = tt }

  -- the list as a map where it is sorted, else m
  unfoldable pub checked : (es : List (K × X)) (b : Bool) → is_sorted R es ≡ b → FiniteMap R X → FiniteMap R X
  checked es true e m = record { list = es; sorted = subst T (sym e) tt }
  checked es false e m = m

  pub list-checked : (es : List (K × X)) (b : Bool) (e : is_sorted R es ≡ b) (m : FiniteMap R X) → T b → (checked es b e m).list ≡ es
  unfolding checked
  list-checked es true e m h = refl
  list-checked es false e m h = absurd h

  -- what the map holds at a key
  unfoldable pub get : FiniteMap R X → K → Option X
  get m q = find R q m.list

  -- the map that holds v at k, and else what it held
  unfoldable pub insert : FiniteMap R X → K → X → FiniteMap R X
  insert m k v = checked (put R k v m.list) _ refl m

  -- the entries whose keys pass a test
  unfoldable pub retain : FiniteMap R X → (K → Bool) → FiniteMap R X
  retain m p = record { list = where_key R p m.list; sorted = is_sorted-where_key R p m.list m.sorted }

  -- the entries, by ascending keys
  unfoldable pub entries : FiniteMap R X → List (K × X)
  entries m = m.list

  -- the keys, ascending
  unfoldable pub keys : FiniteMap R X → List K
  keys m = map (λ e. e.0) m.list

  -- the keys with nothing at them, as a map
  unfoldable pub domain : FiniteMap R X → FiniteMap R (Unit {0})
  domain m = record { list = bare m.list; sorted = subst T (sym (is_sorted-bare R m.list)) m.sorted }

  -- the number of entries
  unfoldable pub len : FiniteMap R X → ℕ
  len m = length m.list

  -- the key holds the value, or nothing
  unfoldable pub set_at : FiniteMap R X → K → Option X → FiniteMap R X
  set_at m k None = retain m (λ x. not (eq_by_cmp R k x))
  set_at m k (Some v) = insert m k v

-- the map of a list of entries; at a key that stands twice the first counts
abbrev pub from_entries : {K X : Type 0} (R : K → K → Ordering) → List (K × X) → FiniteMap R X
from_entries R [] = empty
from_entries R (e ∷ es) = set_at (from_entries R es) e.0 (Some e.1)
