-- Finite maps by what they answer.
use Rattle.std.proofs.Common.{◌≡◌, Bool, true, false, cond, not, ◌||◌, T, map, unwrap_or, List, ◌≢◌, ◌⊎◌, refl, sym, ap, subst, ◌∙◌, inl, inr, true≢false, Option, Some, None, option_map, [], ◌∷◌, Ordering, Equal, Less, arith}
use Rattle.std.proofs.lemmas.Option.{none-some}
use Rattle.std.specs.Ordering.{eq_by_cmp, is_eq, is_lt, ordering_reverse}
use Rattle.std.specs.Cmp.{IsTotalOrder, tied_itself, eq_by_cmp_equiv, Equal-is}
use Rattle.std.specs.FinMap.{IsAntisymmetric}
use Rattle.std.specs.FinMap.Entries.{find, below_all, is_sorted, is_sorted-put, find-put, find-where_key, same_entries}
use Rattle.std.specs.List.{AllByRecursion, Contains, list_any}
use Rattle.std.proofs.lemmas.List.Elements.{All-from_recursion, All-contains, Contains-append_right}
use Rattle.cg_maps.specs.FiniteMap.{FiniteMap, from_entries, empty, get, insert, retain, set_at, same_list, list-checked, bare, domain, entries, keys, len, is_nonempty}
use Rattle.cg_maps.specs.Laws.{EachKeyOnce, IsListed}
use Rattle.cg_maps.proofs.Tests.{and_first, and_second, less}

turned : {A : Type 0} (b : Bool) (x y : A) → cond (not b) x y ≡ cond b y x
turned true x y = refl
turned false x y = refl

module _ {K : Type 0} {R : K → K → Ordering} (o : IsTotalOrder R) (same : IsAntisymmetric R) where
  pub here : (k : K) → eq_by_cmp R k k ≡ true
  here k = ap is_eq (tied_itself o k)

  pub is_same : (k l : K) → eq_by_cmp R k l ≡ true → k ≡ l
  is_same k l e = same k l ((Equal-is (R k l)).0 e)

  pub apart : (k l : K) → k ≢ l → eq_by_cmp R k l ≡ false
  apart k l ne = elim (eq_by_cmp R k l) as (λ b. eq_by_cmp R k l ≡ b → b ≡ false) [ true ↦ λ e. absurd (ne (is_same k l e)) | false ↦ λ e. refl ] refl

  pub cases : (k l : K) → (k ≡ l) ⊎ (k ≢ l)
  cases k l = elim (eq_by_cmp R k l) as (λ b. eq_by_cmp R k l ≡ b → (k ≡ l) ⊎ (k ≢ l)) [
    | true ↦ λ e. inl (is_same k l e)
    | false ↦ λ e. inr (λ p. true≢false (sym (here k) ∙ ap (eq_by_cmp R k) p ∙ e))
  ] refl

module _ {K X : Type 0} {R : K → K → Ordering} (o : IsTotalOrder R) (same : IsAntisymmetric R) where
  pub same_map : (m n : FiniteMap R X) → ((q : K) → get m q ≡ get n q) → m ≡ n
  unfolding get
  same_map m n is = same_list m n (same_entries R o same m.list n.list m.sorted n.sorted is)

  pub get-retain : (m : FiniteMap R X) (p : K → Bool) (q : K) → get (retain m p) q ≡ cond (p q) (get m q) None
  unfolding get retain
  get-retain m p q = find-where_key R p q (λ x e. ap p (sym (same q x e))) m.list

  pub get-set_at : (m : FiniteMap R X) (k : K) (v : Option X) (q : K) → get (set_at m k v) q ≡ cond (eq_by_cmp R q k) v (get m q)
  unfolding set_at insert get
  get-set_at m k None q = get-retain m (λ x. not (eq_by_cmp R k x)) q ∙ turned (eq_by_cmp R k q) _ _ ∙ ap (λ b. cond b None (get m q)) ((eq_by_cmp_equiv o).symm k q)
  get-set_at m k (Some v) q = ap (find R q) (list-checked _ _ refl m (is_sorted-put R o k v m.list m.sorted)) ∙ find-put R o q k v m.list

  pub get_here : (m : FiniteMap R X) (k : K) (v : Option X) → get (set_at m k v) k ≡ v
  get_here m k v = get-set_at m k v k ∙ ap (λ b. cond b v (get m k)) (here o same k)

  pub get_apart : (m : FiniteMap R X) (k : K) (v : Option X) (q : K) → q ≢ k → get (set_at m k v) q ≡ get m q
  get_apart m k v q ne = get-set_at m k v q ∙ ap (λ b. cond b v (get m q)) (apart o same q k ne)

  pub set_same : (m : FiniteMap R X) (k : K) → set_at m k (get m k) ≡ m
  set_same m k = same_map _ _ (λ q. elim (cases o same q k) [ inl e ↦ subst (λ x. get (set_at m k (get m k)) x ≡ get m x) (sym e) (get_here m k _) | inr ne ↦ get_apart m k _ q ne ])

  pub set_set : (m : FiniteMap R X) (k : K) (v w : Option X) → set_at (set_at m k v) k w ≡ set_at m k w
  set_set m k v w = same_map _ _ (λ q. elim (cases o same q k) [
    | inl e ↦ subst (λ x. get (set_at (set_at m k v) k w) x ≡ get (set_at m k w) x) (sym e) (get_here _ k w ∙ sym (get_here m k w))
    | inr ne ↦ get_apart _ k w q ne ∙ get_apart m k v q ne ∙ sym (get_apart m k w q ne)
  ])

  pub set_swap : (m : FiniteMap R X) (k l : K) (v w : Option X) → (k ≢ l) → set_at (set_at m k v) l w ≡ set_at (set_at m l w) k v
  set_swap m k l v w ne = same_map _ _ (λ q. elim (cases o same q k) [
    | inl e ↦ subst (λ x. get (set_at (set_at m k v) l w) x ≡ get (set_at (set_at m l w) k v) x) (sym e) (get_apart _ l w k ne ∙ get_here m k v ∙ sym (get_here _ k v))
    | inr n ↦ get-set_at _ l w q ∙ ap (cond (eq_by_cmp R q l) w) (get_apart m k v q n) ∙ sym (get_apart _ k v q n ∙ get-set_at m l w q)
  ])

  -- what is kept of two maps is the same where they answer alike on it
  pub same_retained : (m n : FiniteMap R X) (p r : K → Bool) → ((q : K) → cond (p q) (get m q) None ≡ cond (r q) (get n q) None) → retain m p ≡ retain n r
  same_retained m n p r is = same_map _ _ (λ q. get-retain m p q ∙ is q ∙ sym (get-retain n r q))

find-bare : {K X : Type 0} (R : K → K → Ordering) (q : K) (es : List (K × X)) → find R q (bare es) ≡ option_map (λ x. tt) (find R q es)
find-bare R q [] = refl
find-bare {K} {X} R q (e ∷ es) = elim (eq_by_cmp R q e.0) as (λ b. cond b (Some tt) (find R q (bare es)) ≡ option_map (λ (x : X). tt) (cond b (Some e.1) (find R q es))) [ true ↦ refl | false ↦ find-bare R q es ]

pub get-domain : {K X : Type 0} {R : K → K → Ordering} (m : FiniteMap R X) (q : K) → get (domain m) q ≡ option_map (λ x. tt) (get m q)
unfolding get domain
get-domain {R = R} m q = find-bare R q m.list

-- ---- the entries of a map: each is found, and no key stands twice

pub all_map : {A : Type 0} {P Q : A → Type 0} → ((x : A) → P x → Q x) → (xs : List A) → AllByRecursion P xs → AllByRecursion Q xs
all_map f [] h = tt
all_map f (x ∷ xs) h = (f x h.0, all_map f xs h.1)

module _ {K X : Type 0} {R : K → K → Ordering} (o : IsTotalOrder R) where
  abbrev AllBelow : K → List (K × X) → Type 0
  AllBelow k es = AllByRecursion (λ e. R k e.0 ≡ Less) es

  all_below : (k : K) (es : List (K × X)) → T (below_all R k es) → AllBelow k es
  all_below k [] h = tt
  all_below k (e ∷ es) h = (less _ (and_first _ _ h), all_below k es (and_second _ _ h))

  skipped : (e : K × X) (q : K) (es : List (K × X)) → R e.0 q ≡ Less → find R q (e ∷ es) ≡ find R q es
  skipped e q es l = ap (λ r. cond (is_eq r) (Some e.1) (find R q es)) (o.antisymm q e.0 ∙ ap ordering_reverse l)

  found_later : (e : K × X) (es fs : List (K × X)) → AllBelow e.0 fs → AllByRecursion (λ f. find R f.0 es ≡ Some f.1) fs → AllByRecursion (λ f. find R f.0 (e ∷ es) ≡ Some f.1) fs
  found_later e es [] b h = tt
  found_later e es (f ∷ fs) b h = (skipped e f.0 es b.0 ∙ h.0, found_later e es fs b.1 h.1)

  found : (es : List (K × X)) → T (is_sorted R es) → AllByRecursion (λ e. find R e.0 es ≡ Some e.1) es
  found [] h = tt
  found (e ∷ es) h = (
    ap (λ r. cond (is_eq r) (Some e.1) (find R e.0 es)) (tied_itself o e.0),
    found_later e es es (all_below e.0 es (and_first _ _ h)) (found es (and_second _ _ h)),
  )

  pub each_entry : (m : FiniteMap R X) → AllByRecursion (λ e. get m e.0 ≡ Some e.1) (entries m)
  unfolding get entries
  each_entry m = found m.list m.sorted

  abbrev pub KeysDiffer : List (K × X) → Type 0
  KeysDiffer es = EachKeyOnce es

  differ : (es : List (K × X)) → T (is_sorted R es) → KeysDiffer es
  differ [] h = tt
  differ (e ∷ es) h = (all_map (λ f l is. not_less (sym (ap (R e.0) is ∙ l) ∙ tied_itself o e.0)) es (all_below e.0 es (and_first _ _ h)), differ es (and_second _ _ h))
    where
      not_less : Less ≡ Equal → ⊥
      not_less e = true≢false (ap is_lt e)

  pub keys_differ : (m : FiniteMap R X) → KeysDiffer (entries m)
  unfolding entries
  keys_differ m = differ m.list m.sorted

-- ---- what is found is an entry

first_key : {K X : Type 0} (P : K × X → Type 0) (es : List (K × X)) → is_nonempty (map (λ e. e.0) es) ≡ true → AllByRecursion P es → (k : K) × (v : X) × P (k, v)
first_key P [] e h = absurd (true≢false (sym e))
first_key P (x ∷ es) e h = (x.0, x.1, h.0)

module _ {K X : Type 0} (R : K → K → Ordering) where
  nothing_found : (q : K) (es : List (K × X)) → is_nonempty es ≡ false → find R q es ≡ None
  nothing_found q [] e = refl
  nothing_found q (x ∷ es) e = absurd (true≢false e)

  nothing_mapped : (q : K) (es : List (K × X)) → is_nonempty (map (λ e. e.0) es) ≡ false → find R q es ≡ None
  nothing_mapped q [] e = refl
  nothing_mapped q (x ∷ es) e = absurd (true≢false e)

module _ {K X : Type 0} {R : K → K → Ordering} where
  pub none_in_entries : (m : FiniteMap R X) (q : K) → is_nonempty (entries m) ≡ false → get m q ≡ None
  unfolding entries get
  none_in_entries m q e = nothing_found R q m.list e

  pub none_in_keys : (m : FiniteMap R X) (q : K) → is_nonempty (keys m) ≡ false → get m q ≡ None
  unfolding keys get
  none_in_keys m q e = nothing_mapped R q m.list e

  -- where there are keys, one of them holds something
  pub some_key : IsTotalOrder R → (m : FiniteMap R X) → is_nonempty (keys m) ≡ true → (k : K) × (v : X) × (get m k ≡ Some v)
  unfolding entries keys
  some_key o m e = first_key (λ x. get m x.0 ≡ Some x.1) m.list e (each_entry o m)

  module _ (same : IsAntisymmetric R) where
    passed : (t : K × X → Bool) (q : K) (v : X) (es : List (K × X)) → t (q, v) ≡ true → find R q es ≡ Some v → list_any t es ≡ true
    passed t q v [] h e = absurd (none_some e)
      where
        none_some : {A : Type 0} {x : A} → None ≡ Some x → ⊥
        none_some e = cc
    passed t q v (x ∷ es) h e =
        elim (eq_by_cmp R q x.0) as (λ b. eq_by_cmp R q x.0 ≡ b → cond b (Some x.1) (find R q es) ≡ Some v → (t x || list_any t es) ≡ true) [
          | true ↦ λ k f. let tx : t x ≡ true = subst (λ y. t y ≡ true) (λ i. (same q x.0 ((Equal-is (R q x.0)).0 k) i, ap (λ o. unwrap_or o v) (sym f) i)) h in ap (λ b. b || list_any t es) tx
          | false ↦ λ k f. ap (λ b. t x || b) (passed t q v es h f) ∙ or_true (t x)
        ] refl e
      where
        or_true : (b : Bool) → (b || true) ≡ true
        or_true true = refl
        or_true false = refl

    -- an entry that passes a test
    pub entry_passes : (m : FiniteMap R X) (t : K × X → Bool) (q : K) (v : X) → get m q ≡ Some v → t (q, v) ≡ true → list_any t (entries m) ≡ true
    unfolding entries get
    entry_passes m t q v e h = passed t q v m.list h e

module _ {K X : Type 0} {R : K → K → Ordering} (o : IsTotalOrder R) (same : IsAntisymmetric R) where
  found_is_listed : (q : K) (v : X) (es : List (K × X)) → find R q es ≡ Some v → Contains es (q, v)
  found_is_listed q v [] e = absurd (none-some v e)
  found_is_listed q v (x ∷ es) e =
      elim (eq_by_cmp R q x.0) as (λ b. eq_by_cmp R q x.0 ≡ b → cond b (Some x.1) (find R q es) ≡ Some v → Contains (x ∷ es) (q, v)) [
        | true ↦ λ k f. (0, omega arith, λ i. (sym (is_same o same q x.0 k) i, ap (λ o. unwrap_or o v) f i))
        | false ↦ λ k f. Contains-append_right (x ∷ []) es (q, v) (found_is_listed q v es f)
      ] refl e

  pub entries_held : (m : FiniteMap R X) → IsListed R X m
  unfolding get entries keys len
  entries_held m = record {
    held = λ k v. (All-contains (λ e. get m e.0 ≡ Some e.1) (entries m) (k, v) (All-from_recursion _ (entries m) (each_entry o m)), found_is_listed k v m.list);
    once = keys_differ o m;
    keys = refl;
    counted = refl;
  }

pub get-empty : {K X : Type 0} (R : K → K → Ordering) (q : K) → get (empty {X = X} {R = R}) q ≡ None
unfolding get empty
get-empty R q = refl

pub get-from_entries : {K X : Type 0} {R : K → K → Ordering} (o : IsTotalOrder R) (same : IsAntisymmetric R) (es : List (K × X)) (q : K) → get (from_entries R es) q ≡ find R q es
get-from_entries {R = R} o same [] q = get-empty R q
get-from_entries {R = R} o same (e ∷ es) q = get-set_at o same (from_entries R es) e.0 (Some e.1) q ∙ ap (cond (eq_by_cmp R q e.0) (Some e.1)) (get-from_entries o same es q)
