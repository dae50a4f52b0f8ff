-- Entries in no order that hold no number twice, as a map.
use Rattle.std.proofs.Common.{◌≡◌, ◌≢◌, ◌⊎◌, ℕ, zero, suc, ◌+◌, ◌<◌, ◌≤◌, ◌==◌, Bool, true, false, cond, List, [], ◌∷◌, map, length, get_or, Option, None, Some, is_some, option_map, eqb, Contains, refl, sym, ap, subst, ◌∙◌, inl, inr, arith, true≢false, eq-eqb, add-one}
use Rattle.std.specs.List.{slice_get, IsDistinct}
use Rattle.std.specs.List.Sorted.{IsPermutation, IsSortedByKey, IsNonDecreasing, IsStrictlySortedBy}
use Rattle.std.specs.Map.{keys_of}
use Rattle.std.specs.Ordering.{nat_cmp, eq_by_cmp}
use Rattle.std.specs.Cmp.{nat_cmp_total}
use Rattle.std.specs.FinMap.{nat_cmp-IsAntisymmetric}
use Rattle.std.specs.FinMap.Entries.{find, is_sorted-put, length-put}
use Rattle.std.proofs.lemmas.Bool.{cases_eq}
use Rattle.std.proofs.lemmas.List.{length-map}
use Rattle.std.proofs.lemmas.List.Sorted.{IsNonDecreasingBy-from_sort, IsPermutation-map, Contains-permutation, IsPermutation-sym}
use Rattle.std.proofs.lemmas.Map.Keys.{IsDistinct-from_apart, IsDistinct-IsPermutation, apart_from_distinct, IsStrictlyIncreasing-from_distinct, sorted_from_strictly_increasing}
use Rattle.std.proofs.lemmas.Option.{slice_get_within, slice_get-get_or, get_or_from_slice_get}
use borrow.Author.Tests.{ne_eqb}
use Rattle.cg_maps.specs.FiniteMap.{FiniteMap, empty, from_entries, get, set_at, insert, entries, len, list-checked}
use Rattle.cg_maps.proofs.Maps.{is_same, same_map, get-from_entries}
use Rattle.cg_maps.proofs.TreeMaps.{is_sorted-from, entries-from_sorted}
use Rattle.cg_places.proofs.Lists.{same_some, some_not_none, item_at, at_mapped}
use Rattle.cg_places.proofs.Placing.{found_at, not_found}

-- no number stands twice
abbrev pub Once : List (ℕ × ℕ) → Type 0
Once es = (i j : ℕ) (e f : ℕ × ℕ) → slice_get es i ≡ Some e → slice_get es j ≡ Some f → e.0 ≡ f.0 → i ≡ j

stands : (es : List (ℕ × ℕ)) (q x : ℕ) → find nat_cmp q es ≡ Some x → (j : ℕ) × (slice_get es j ≡ Some (q, x))
stands [] q x h = absurd (some_not_none x None h refl)
stands (f ∷ es) q x h = by (eq_by_cmp nat_cmp q f.0) refl (stands es q x)
  where
    by : (b : Bool) → eq_by_cmp nat_cmp q f.0 ≡ b → (find nat_cmp q es ≡ Some x → (j : ℕ) × (slice_get es j ≡ Some (q, x))) → (j : ℕ) × (slice_get (f ∷ es) j ≡ Some (q, x))
    by true e rest =
        let at : Some f.1 ≡ Some x = sym (ap (λ b. cond b (Some f.1) (find nat_cmp q es)) e) ∙ h in
        (zero, λ i. Some (sym (is_same nat_cmp_total nat_cmp-IsAntisymmetric q f.0 e) i, same_some f.1 x at i))
    by false e rest = let later = rest (sym (ap (λ b. cond b (Some f.1) (find nat_cmp q es)) e) ∙ h) in (suc later.0, later.1)

module _ (es ns : List (ℕ × ℕ)) (once : Once es) (moved : IsPermutation es ns) (ascend : IsSortedByKey (λ (e : ℕ × ℕ). e.0) nat_cmp ns) where
  key_at : (xs : List (ℕ × ℕ)) (j : ℕ) (e : ℕ × ℕ) → slice_get xs j ≡ Some e → slice_get (keys_of xs) j ≡ Some e.0
  key_at xs j e h = at_mapped (λ (x : ℕ × ℕ). x.0) xs j ∙ ap (option_map (λ (x : ℕ × ℕ). x.0)) h

  many : (xs : List (ℕ × ℕ)) → length (keys_of xs) ≡ length xs
  many xs = length-map xs (λ (x : ℕ × ℕ). x.0)

  flips : (a b : ℕ) → eqb a b ≡ eqb b a
  flips a b = grind arith

  distinct_es : IsDistinct eqb (keys_of es)
  distinct_es = IsDistinct-from_apart eqb (keys_of es) (λ i j d less low.
      let x = item_at es i (omega (arith, many es)) in
      let y = item_at es j (omega (arith, many es)) in
      ne_eqb (get_or (keys_of es) i d) (get_or (keys_of es) j d) (λ same.
      let keys : x.0.0 ≡ y.0.0 = sym (get_or_from_slice_get (keys_of es) i x.0.0 d (key_at es i x.0 x.1)) ∙ same ∙ get_or_from_slice_get (keys_of es) j y.0.0 d (key_at es j y.0 y.1) in
      let is : i ≡ j = once i j x.0 y.0 x.1 y.1 keys in absurd (omega arith)))

  distinct_ns : IsDistinct eqb (keys_of ns)
  distinct_ns = IsDistinct-IsPermutation eqb flips (keys_of es) (keys_of ns) (IsPermutation-map (λ (e : ℕ × ℕ). e.0) es ns moved) distinct_es

  apart_in_ns : (i j : ℕ) (e f : ℕ × ℕ) → i < j → slice_get ns i ≡ Some e → slice_get ns j ≡ Some f → e.0 ≢ f.0
  apart_in_ns i j e f less a b same =
      let low : j < length (keys_of ns) = omega (arith, many ns, slice_get_within ns j f b) in
      let x : get_or (keys_of ns) i 0 ≡ e.0 = get_or_from_slice_get (keys_of ns) i e.0 0 (key_at ns i e a) in
      let y : get_or (keys_of ns) j 0 ≡ f.0 = get_or_from_slice_get (keys_of ns) j f.0 0 (key_at ns j f b) in
      true≢false (sym (eq-eqb (get_or (keys_of ns) i 0) (get_or (keys_of ns) j 0) (x ∙ same ∙ sym y)) ∙ apart_from_distinct eqb (keys_of ns) i j 0 distinct_ns less low)

  less_or : (i j : ℕ) → i ≢ j → (i < j) ⊎ (j < i)
  less_or zero zero ne = absurd (ne refl)
  less_or zero (suc j) ne = inl (omega arith)
  less_or (suc i) zero ne = inr (omega arith)
  less_or (suc i) (suc j) ne = elim (less_or i j (λ same. ne (ap suc same))) [ inl a ↦ inl (omega arith) | inr a ↦ inr (omega arith) ]

  once_ns : Once ns
  once_ns i j e f a b same = elim (cases_eq i j) [
    | inl is ↦ is
    | inr ne ↦ elim (less_or i j ne) [
      | inl low ↦ absurd (apart_in_ns i j e f low a b same)
      | inr low ↦ absurd (apart_in_ns j i f e low b a (sym same))
    ]
  ]

  rising : IsNonDecreasing (keys_of ns)
  rising i j d le low =
      let by_key = IsNonDecreasingBy-from_sort (λ (e : ℕ × ℕ). e.0) ns ascend in
      let x = item_at ns i (omega (arith, many ns)) in
      let y = item_at ns j (omega (arith, many ns)) in
      let a : get_or (keys_of ns) i d ≡ x.0.0 = get_or_from_slice_get (keys_of ns) i x.0.0 d (key_at ns i x.0 x.1) in
      let b : get_or (keys_of ns) j d ≡ y.0.0 = get_or_from_slice_get (keys_of ns) j y.0.0 d (key_at ns j y.0 y.1) in
      let c : (get_or ns i x.0).0 ≡ x.0.0 = ap (λ (e : ℕ × ℕ). e.0) (get_or_from_slice_get ns i x.0 x.0 x.1) in
      let f : (get_or ns j x.0).0 ≡ y.0.0 = ap (λ (e : ℕ × ℕ). e.0) (get_or_from_slice_get ns j y.0 x.0 y.1) in
      omega (arith, a, b, c, f, by_key i j x.0 le (omega (arith, many ns)))

  strict : IsStrictlySortedBy nat_cmp (keys_of ns)
  strict = sorted_from_strictly_increasing (keys_of ns) (IsStrictlyIncreasing-from_distinct (keys_of ns) rising distinct_ns)

  contains : (xs : List (ℕ × ℕ)) (j : ℕ) (e : ℕ × ℕ) → slice_get xs j ≡ Some e → Contains xs e
  contains xs j e h = (j, slice_get_within xs j e h, get_or_from_slice_get xs j e e h)

  place_of : (xs : List (ℕ × ℕ)) (e : ℕ × ℕ) → Contains xs e → (j : ℕ) × (slice_get xs j ≡ Some e)
  place_of xs e c = (c.0, slice_get-get_or xs c.0 e c.1 ∙ ap Some c.2)

  same_found : (q : ℕ) (o : Option ℕ) → find nat_cmp q es ≡ o → find nat_cmp q ns ≡ o
  same_found q None none = not_found ns q (λ j e h same.
      let at = place_of es e (Contains-permutation ns es e (IsPermutation-sym es ns moved) (contains ns j e h)) in
      some_not_none e.1 (find nat_cmp q es) (ap (λ k. find nat_cmp k es) (sym same) ∙ found_at es once at.0 e at.1) none)
  same_found q (Some x) some =
      let at = stands es q x some in
      let now = place_of ns (q, x) (Contains-permutation es ns (q, x) moved (contains es at.0 (q, x) at.1)) in
      found_at ns once_ns now.0 (q, x) now.1

  pub sorted_entries : ns ≡ entries (from_entries nat_cmp es)
  sorted_entries =
      sym (entries-from_sorted nat_cmp_total nat_cmp-IsAntisymmetric ns (is_sorted-from nat_cmp ns strict))
      ∙ ap entries (same_map nat_cmp_total nat_cmp-IsAntisymmetric (from_entries nat_cmp ns) (from_entries nat_cmp es) (λ q.
      get-from_entries nat_cmp_total nat_cmp-IsAntisymmetric ns q ∙ same_found q (find nat_cmp q es) refl ∙ sym (get-from_entries nat_cmp_total nat_cmp-IsAntisymmetric es q)))

-- ---- how many there are

len-empty : len (empty {X = ℕ} {R = nat_cmp}) ≡ 0
unfolding len empty
len-empty = refl

len-set_new : (m : FiniteMap nat_cmp ℕ) (k v : ℕ) → get m k ≡ None → len (set_at m k (Some v)) ≡ suc (len m)
unfolding get set_at insert len
len-set_new m k v absent = ap length (list-checked _ _ refl m (is_sorted-put nat_cmp nat_cmp_total k v m.list m.sorted)) ∙ length-put nat_cmp nat_cmp_total k v m.list m.sorted ∙ ap (λ o. cond (is_some o) (length m.list) (length m.list + 1)) absent ∙ add-one (length m.list)

pub len-from_once : (es : List (ℕ × ℕ)) → Once es → len (from_entries nat_cmp es) ≡ length es
len-from_once [] once = len-empty
len-from_once (e ∷ es) once =
    let absent : get (from_entries nat_cmp es) e.0 ≡ None =
    get-from_entries nat_cmp_total nat_cmp-IsAntisymmetric es e.0 ∙ not_found es e.0 (λ j f h same. let no : zero ≡ suc j = once zero (suc j) e f refl h (sym same) in absurd (omega arith)) in
    len-set_new (from_entries nat_cmp es) e.0 e.1 absent ∙ ap suc (len-from_once es (λ i j a b x y z. let next : suc i ≡ suc j = once (suc i) (suc j) a b x y z in omega arith))
