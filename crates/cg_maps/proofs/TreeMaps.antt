-- A `BTreeMap` as the finite map of its entries, `from_entries R m.entries`.
use Rattle.std.proofs.Common.{◌≡◌, cond, T, length, List, [], ◌∷◌, refl, sym, ap, subst, ◌∙◌, Option, Some, None, Less}
use Rattle.std.specs.Ordering.{eq_by_cmp, is_lt}
use Rattle.std.specs.declared.cmp.Ordering.{Ordering}
use Rattle.std.specs.Cmp.{IsTotalOrder, eq_by_cmp_equiv}
use Rattle.std.specs.Map.{lookup, keys_of}
use Rattle.std.specs.List.{AllByRecursion}
use Rattle.std.specs.List.Sorted.{IsStrictlySortedBy}
use Rattle.std.specs.FinMap.{IsAntisymmetric}
use Rattle.std.specs.FinMap.Entries.{find, below_all, is_sorted}
use Rattle.std.specs.BTreeMap as tree
use Rattle.std.specs.BTreeMap.{BTreeMap, is_at, btree_map_len, IsOrdered}
use Rattle.cg_maps.specs.FiniteMap.{FiniteMap, from_entries, get, set_at, entries, len}
use Rattle.cg_maps.proofs.Maps.{same_map, get-from_entries, get-set_at}
use Rattle.cg_maps.proofs.Tests.{and_both}

-- a tree map's look-up is that of a finite map
pub find-lookup : {K X : Type 0} (R : K → K → Ordering) (q : K) (es : List (K × X)) → find R q es ≡ lookup (is_at (R q)) es
find-lookup R q [] = refl
find-lookup R q (e ∷ es) = ap (λ r. cond (is_at (R q) e.0) (Some e.1) r) (find-lookup R q es)

module _ {K : Type 0} (R : K → K → Ordering) where
  below_all-from : {X : Type 0} (k : K) (es : List (K × X)) → AllByRecursion (λ y. R k y ≡ Less) (keys_of es) → T (below_all R k es)
  below_all-from k [] h = tt
  below_all-from k (e ∷ es) h = and_both _ _ (subst (λ r. T (is_lt r)) (sym h.0) tt) (below_all-from k es h.1)

  -- entries whose keys ascend are those of a finite map
  pub is_sorted-from : {X : Type 0} (es : List (K × X)) → IsStrictlySortedBy R (keys_of es) → T (is_sorted R es)
  unfolding IsStrictlySortedBy
  is_sorted-from [] h = tt
  is_sorted-from (e ∷ es) h = and_both _ _ (below_all-from e.0 es h.0) (is_sorted-from es h.1)

module _ {K X : Type 0} {R : K → K → Ordering} (o : IsTotalOrder R) (same : IsAntisymmetric R) where
  -- the view answers as the tree map
  pub get-view : (m : BTreeMap K X) (q : K) → get (from_entries R m.entries) q ≡ tree.get R m q
  get-view m q = get-from_entries o same m.entries q ∙ find-lookup R q m.entries

  -- the view answers as a query that compares as the key k does
  pub get_by-view : (m : BTreeMap K X) (k : K) (compare : K → Ordering) → ((x : K) → compare x ≡ R k x) → get (from_entries R m.entries) k ≡ tree.get_by compare m
  get_by-view m k compare alike = get-view m k ∙ found m.entries
    where
      found : (es : List (K × X)) → lookup (is_at (R k)) es ≡ lookup (is_at compare) es
      found [] = refl
      found (e ∷ es) = λ i. cond (is_at (λ x. sym (alike x) i) e.0) (Some e.1) (found es i)

  -- where entries answer w at k and else as others do, their map is that of the others with w at k
  pub from-updates : (es fs : List (K × X)) (k : K) (w : Option X) → ((q : K) → lookup (is_at (R q)) fs ≡ cond (eq_by_cmp R k q) w (lookup (is_at (R q)) es)) → from_entries R fs ≡ set_at (from_entries R es) k w
  from-updates es fs k w h = same_map o same _ _ (λ q.
      get-from_entries o same fs q ∙ find-lookup R q fs ∙ h q
      ∙ (λ i. cond ((eq_by_cmp_equiv o).symm k q i) w (sym (get-from_entries o same es q ∙ find-lookup R q es) i))
      ∙ sym (get-set_at o same (from_entries R es) k w q))

  -- where a tree map takes w at k (`None` takes the key out) and keeps the rest, the view does: insert, remove, a write through `get_mut`
  pub view-updates : (m n : BTreeMap K X) (k : K) (w : Option X) → ((q : K) → tree.get R n q ≡ cond (eq_by_cmp R k q) w (tree.get R m q)) → from_entries R n.entries ≡ set_at (from_entries R m.entries) k w
  view-updates m n k w h = from-updates m.entries n.entries k w h

  pub view-insert : (m n : BTreeMap K X) (k : K) (v : X) → tree.Updates R m n k (Some v) → from_entries R n.entries ≡ set_at (from_entries R m.entries) k (Some v)
  view-insert m n k v h = view-updates m n k (Some v) h.0

  pub view-remove : (m n : BTreeMap K X) (k : K) → tree.Updates R m n k None → from_entries R n.entries ≡ set_at (from_entries R m.entries) k None
  view-remove m n k h = view-updates m n k None h.0

  -- unchanged entries are the same map
  pub view-same : (m n : BTreeMap K X) → tree.IsUnchanged m n → from_entries R n.entries ≡ from_entries R m.entries
  view-same m n e = ap (from_entries R) e

  -- ascending entries are the entries of their map
  pub entries-from_sorted : (es : List (K × X)) → T (is_sorted R es) → entries (from_entries R es) ≡ es
  unfolding entries get
  entries-from_sorted es h =
      let m : FiniteMap R X = record { list = es; sorted = h } in
      ap entries (same_map o same (from_entries R es) m (λ q. get-from_entries o same es q))

  pub entries-view : (m : BTreeMap K X) → IsOrdered R m → entries (from_entries R m.entries) ≡ m.entries
  entries-view m h = entries-from_sorted m.entries (is_sorted-from R m.entries h)

  pub len-view : (m : BTreeMap K X) → IsOrdered R m → len (from_entries R m.entries) ≡ btree_map_len m
  unfolding len entries
  len-view m h = ap length (entries-view m h)
