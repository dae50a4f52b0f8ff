-- Runs of entries by ascending keys.
use Rattle.std.proofs.Common.{◌≡◌, ◌≢◌, ℕ, zero, suc, true, false, cond, List, [], ◌∷◌, ◌++◌, ◌-◌, length, slice_index_or, arith, Some, None, Result, Ok, Err, refl, sym, ap, subst, ◌∙◌, true≢false, Less, Equal, Greater}
use Rattle.std.specs.Ordering.{eq_by_cmp, is_eq, is_lt, ordering_reverse}
use Rattle.std.specs.declared.cmp.Ordering.{Ordering}
use Rattle.std.specs.Cmp.{IsTotalOrder, tied_itself, eq_by_cmp_equiv}
use Rattle.std.specs.Map.{keys_of}
use Rattle.std.proofs.lemmas.Map.Keys.{IsDistinct-from_sorted}
use Rattle.std.proofs.lemmas.Map.Made.{update_all_none}
use Rattle.std.proofs.lemmas.Option.{none-some, same_Some}
use Rattle.std.specs.List.{AllByRecursion, slice_get}
use Rattle.std.specs.Result.{result_ok}
use Rattle.std.specs.List.Sorted.{IsBinarySearchResult, IsStrictlySortedBy}
use Rattle.std.specs.FinMap.{IsAntisymmetric}
use Rattle.std.specs.FinMap.Entries.{find}
use Rattle.std.specs.BTreeMap.{BTreeMap, IsFromIterResult}
use Rattle.cg_maps.specs.FiniteMap.{from_entries, get, set_at}
use Rattle.cg_maps.proofs.Maps.{same_map, set_swap, get-from_entries}
use Rattle.cg_maps.proofs.TreeMaps.{find-lookup, get-view}

-- each key of the entries is below k
abbrev pub AreBelow : {K X : Type 0} → (K → K → Ordering) → K → List (K × X) → Type 0
AreBelow R k es = AllByRecursion (λ q. R q k ≡ Less) (keys_of es)

module _ {K : Type 0} {R : K → K → Ordering} (o : IsTotalOrder R) where
  apart_below : (k q : K) → R q k ≡ Less → eq_by_cmp R k q ≡ false
  apart_below k q l = ap is_eq (o.antisymm k q ∙ ap ordering_reverse l)

  not_same : (k q : K) → R q k ≡ Less → q ≢ k
  not_same k q l e = true≢false (sym (ap is_lt l) ∙ ap is_lt (ap (λ x. R x k) e ∙ tied_itself o k))

module _ {K X : Type 0} {R : K → K → Ordering} (o : IsTotalOrder R) where
  -- where the last key of ascending entries is below k, all are
  below_by_last : (k : K) (es : List (K × X)) (n : ℕ) (e : K × X) → length es ≡ suc n → slice_get es n ≡ Some e → R e.0 k ≡ Less → IsStrictlySortedBy R (keys_of es) → AreBelow R k es
  unfolding IsStrictlySortedBy
  below_by_last k [] n e len is l s = tt
  below_by_last k (f ∷ []) zero e len is l s = let same : f ≡ e = cc is in (ap (λ x. R x.0 k) same ∙ l, tt)
  below_by_last k (f ∷ []) (suc n) e len is l s = absurd (cc is)
  below_by_last k (f ∷ g ∷ es) zero e len is l s = absurd (cc len)
  below_by_last k (f ∷ g ∷ es) (suc n) e len is l s =
      let rest = below_by_last k (g ∷ es) n e (cc len) is l s.1 in
      (o.trans f.0 g.0 k s.0.0 rest.0, rest)

  pub below_by_end : (k : K) (es : List (K × X)) (e : K × X) → slice_get es (length es - 1) ≡ Some e → R e.0 k ≡ Less → IsStrictlySortedBy R (keys_of es) → AreBelow R k es
  below_by_end k [] e is l s = tt
  below_by_end k (f ∷ es) e is l s =
      let at : length (f ∷ es) - 1 ≡ length es = omega arith in
      below_by_last k (f ∷ es) (length es) e refl (subst (λ n. slice_get (f ∷ es) n ≡ Some e) at is) l s

  -- one entry more behind all of them
  pub sorted_push : (k : K) (v : X) (es : List (K × X)) → AreBelow R k es → IsStrictlySortedBy R (keys_of es) → IsStrictlySortedBy R (keys_of (es ++ (k, v) ∷ []))
  unfolding IsStrictlySortedBy
  sorted_push k v [] b s = (tt, tt)
  sorted_push k v (e ∷ es) b s = (all_push es s.0, sorted_push k v es b.1 s.1)
    where
      all_push : (fs : List (K × X)) → AllByRecursion (λ q. R e.0 q ≡ Less) (keys_of fs) → AllByRecursion (λ q. R e.0 q ≡ Less) (keys_of (fs ++ (k, v) ∷ []))
      all_push [] h = (b.0, tt)
      all_push (f ∷ fs) h = (h.0, all_push fs h.1)

  each_above : (k : K) (es : List (K × X)) (n : ℕ) (e : K × X) → AllByRecursion (λ q. R k q ≡ Less) (keys_of es) → slice_get es n ≡ Some e → R k e.0 ≡ Less
  each_above k [] n e h at = absurd (none-some e at)
  each_above k (f ∷ es) zero e h at = ap (λ g. R k g.0) (sym (same_Some f e at)) ∙ h.0
  each_above k (f ∷ es) (suc n) e h at = each_above k es n e h.1 at

  -- each of ascending entries is found by its key
  pub found_at : (es : List (K × X)) (n : ℕ) (e : K × X) → IsStrictlySortedBy R (keys_of es) → slice_get es n ≡ Some e → find R e.0 es ≡ Some e.1
  unfolding IsStrictlySortedBy
  found_at [] n e s at = absurd (none-some e at)
  found_at (f ∷ es) zero e s at =
      subst (λ g. find R g.0 (f ∷ es) ≡ Some g.1) (same_Some f e at)
      (ap (λ t. cond t (Some f.1) (find R f.0 es)) (ap is_eq (tied_itself o f.0)))
  found_at (f ∷ es) (suc n) e s at =
      ap (λ t. cond t (Some f.1) (find R e.0 es)) (apart_below o e.0 f.0 (each_above f.0 es n e s.0 at)) ∙ found_at es n e s.1 at

  pub none_found : (k : K) (es : List (K × X)) → AreBelow R k es → find R k es ≡ None
  none_found k [] b = refl
  none_found k (e ∷ es) b = ap (λ t. cond t (Some e.1) (find R k es)) (apart_below o k e.0 b.0) ∙ none_found k es b.1

pub less_by_test : (r : Ordering) → is_lt r ≡ true → r ≡ Less
less_by_test Less e = refl
less_by_test Equal e = absurd (true≢false (sym e))
less_by_test Greater e = absurd (true≢false (sym e))

-- no entries ascend
pub sorted_none : {K X : Type 0} (R : K → K → Ordering) (es : List (K × X)) → es ≡ [] → IsStrictlySortedBy R (keys_of es)
unfolding IsStrictlySortedBy
sorted_none R es e = subst (λ fs. IsStrictlySortedBy R (keys_of fs)) (sym e) tt

-- the entry that a search for k found has an equal key
pub searched_is : {K X : Type 0} (R : K → K → Ordering) (k : K) (es : List (K × X)) (r : Result ℕ ℕ) (n : ℕ) (e : K × X) → IsBinarySearchResult (λ f. R f.0 k) es r → result_ok r ≡ Some n → e ≡ slice_index_or es n e → R e.0 k ≡ Equal
searched_is R k es (Ok m) n e h is at = subst (λ f. R f.0 k ≡ Equal) (ap (λ i. slice_index_or es i e) (same_Some m n is) ∙ sym at) (h e)
searched_is R k es (Err m) n e h is at = absurd (none-some n is)

module _ {K X : Type 0} {R : K → K → Ordering} (o : IsTotalOrder R) (same : IsAntisymmetric R) where
  -- the map of ascending entries has each at its key
  pub has_at : (es : List (K × X)) (n : ℕ) (e : K × X) → IsStrictlySortedBy R (keys_of es) → slice_get es n ≡ Some e → get (from_entries R es) e.0 ≡ Some e.1
  has_at es n e s at = get-from_entries o same es e.0 ∙ found_at o es n e s at

  pub none_below : (k : K) (es : List (K × X)) → AreBelow R k es → get (from_entries R es) k ≡ None
  none_below k es b = get-from_entries o same es k ∙ none_found o k es b

  pub view-push : (k : K) (v : X) (es : List (K × X)) → AreBelow R k es → from_entries R (es ++ (k, v) ∷ []) ≡ set_at (from_entries R es) k (Some v)
  view-push k v [] b = refl
  view-push k v (e ∷ es) b =
      ap (λ m. set_at m e.0 (Some e.1)) (view-push k v es b.1)
      ∙ set_swap o same (from_entries R es) k e.0 (Some v) (Some e.1) (λ is. not_same o k e.0 b.0 (sym is))

  -- the map that is made of ascending entries is theirs
  pub view-made : (es : List (K × X)) (m : BTreeMap K X) → IsStrictlySortedBy R (keys_of es) → IsFromIterResult R es m → from_entries R m.entries ≡ from_entries R es
  view-made es m s h = same_map o same _ _ (λ q.
      get-view o same m q ∙ h.0 q
      ∙ update_all_none (eq_by_cmp_equiv o) (eq_by_cmp R) (λ x y. refl) es q (IsDistinct-from_sorted R (keys_of es) s)
      ∙ sym (get-from_entries o same es q ∙ find-lookup R q es))
