-- Two maps side by side: what `merge_join_by` gives of their entries, by what the two hold.
use Rattle.std.proofs.Common.{◌≡◌, true, false, cond, T, map, List, [], ◌∷◌, ◌++◌, refl, sym, ap, ap₂, subst, ◌∙◌, true≢false, unwrap_or, Option, Some, None, option_map, Ordering, Less, Equal, Greater}
use Rattle.std.proofs.lemmas.Option.{none-some}
use Rattle.std.specs.Ordering.{eq_by_cmp, is_eq, is_lt, ordering_reverse}
use Rattle.std.specs.Cmp.{IsTotalOrder, Equal-is}
use Rattle.std.specs.FinMap.{IsAntisymmetric}
use Rattle.std.specs.FinMap.Entries.{find, below_all, is_sorted}
use Rattle.std.specs.List.{AllByRecursion, flat_map}
use Rattle.itertools.specs.List.{by_ordering, merge_join_by}
use Rattle.itertools.specs.declared.either_or_both.EitherOrBoth.{EitherOrBoth}
use Rattle.itertools.specs.declared.either_or_both.EitherOrBoth.TheVariants.{Both, Left, Right}
use Rattle.cg_maps.specs.FiniteMap.{FiniteMap, bare, domain, entries, from_entries, get, is_nonempty, keys}
use Rattle.cg_maps.proofs.Maps.{each_entry, get-domain, get-from_entries, same_map}
use Rattle.cg_diff.specs.Difference.{keys_of_either}
use Rattle.cg_maps.proofs.Tests.{and_both, and_first, and_second, less}

-- an entry of either of two maps, or of both at one key
abbrev pub Side : Type 0 → Type 0 → Type 0
Side K X = EitherOrBoth (K × X) (K × X)

-- its key, with what each map holds there
abbrev pub entry_of : {K X : Type 0} → Side K X → K × (Option X × Option X)
entry_of (Left e) = (e.0, (Some e.1, None))
entry_of (Right e) = (e.0, (None, Some e.1))
entry_of (Both e f) = (e.0, (Some e.1, Some f.1))

-- what two maps hold at a key that one of them has
abbrev pub at_either : {X : Type 0} → Option X → Option X → Option (Option X × Option X)
at_either (Some x) o = Some (Some x, o)
at_either None (Some y) = Some (None, Some y)
at_either None None = None

module _ {K X : Type 0} (R : K → K → Ordering) where
  -- the entries of two maps, side by side
  abbrev pub merged : List (K × X) → List (K × X) → List (Side K X)
  merged = merge_join_by (λ e f. R e.0 f.0)

  -- the same as entries of one map
  abbrev pub sides : List (K × X) → List (K × X) → List (K × (Option X × Option X))
  sides es fs = map entry_of (merged es fs)

lesser : {K : Type 0} (R : K → K → Ordering) (k l : K) → R k l ≡ Less → T (is_lt (R k l))
lesser R k l e = subst (λ r. T (is_lt r)) (sym e) tt

pub empty_parts : {A : Type 0} (xs ys : List A) → xs ++ ys ≡ [] → (xs ≡ []) × (ys ≡ [])
empty_parts [] ys e = (refl, e)
empty_parts (x ∷ xs) ys e = absurd (true≢false (ap is_nonempty e))

each_empty : {K A : Type 0} (f : K → List A) (ks : List K) → flat_map f ks ≡ [] → AllByRecursion (λ k. f k ≡ []) ks
each_empty f [] e = tt
each_empty f (k ∷ ks) e = let parts = empty_parts (f k) (flat_map f ks) e in (parts.0, each_empty f ks parts.1)

all_empty : {K A : Type 0} (f : K → List A) → ((k : K) → f k ≡ []) → (ks : List K) → flat_map f ks ≡ []
all_empty f none [] = refl
all_empty f none (k ∷ ks) = ap₂ (λ xs ys. xs ++ ys) (none k) (all_empty f none ks)

flat_map-map : {A B C : Type 0} (f : B → List C) (g : A → B) (xs : List A) → flat_map (λ x. f (g x)) xs ≡ flat_map f (map g xs)
flat_map-map f g [] = refl
flat_map-map f g (x ∷ xs) = ap (λ l. f (g x) ++ l) (flat_map-map f g xs)

bare_keys : {K X : Type 0} (es : List (K × X)) → map (λ e. e.0) (bare es) ≡ map (λ e. e.0) es
bare_keys [] = refl
bare_keys (e ∷ es) = ap (λ ks. e.0 ∷ ks) (bare_keys es)

same_keys : {K X Y : Type 0} {R : K → K → Ordering} (m : FiniteMap R X) (n : FiniteMap R Y) → domain m ≡ domain n → keys m ≡ keys n
unfolding keys domain
same_keys m n e = sym (bare_keys m.list) ∙ ap (λ d. map (λ x. x.0) d.list) e ∙ bare_keys n.list

held_by_either : {K X : Type 0} (R : K → K → Ordering) (q : K) (es fs : List (K × X)) → option_map (λ x. tt {0}) (find R q (es ++ fs)) ≡ option_map (λ x. tt {0}) (at_either (find R q es) (find R q fs))
held_by_either R q [] fs = elim (find R q fs) as (λ y. option_map (λ x. tt {0}) y ≡ option_map (λ x. tt {0}) (at_either None y)) [ None ↦ refl | Some y ↦ refl ]
held_by_either R q (e ∷ es) fs = elim (eq_by_cmp R q e.0) as (λ b. option_map (λ x. tt {0}) (cond b (Some e.1) (find R q (es ++ fs))) ≡ option_map (λ x. tt {0}) (at_either (cond b (Some e.1) (find R q es)) (find R q fs))) [ true ↦ refl | false ↦ held_by_either R q es fs ]

of_either : {X : Type 0} (x y : Option X) (t : Option X × Option X) → at_either x y ≡ Some t → t ≡ (x, y)
of_either (Some x) y t e = sym (ap (λ s. unwrap_or s t) e)
of_either None (Some y) t e = sym (ap (λ s. unwrap_or s t) e)
of_either None None t e = absurd (none-some t e)

neither : {X : Type 0} (x y : Option X) → at_either x y ≡ None → x ≡ y
neither (Some x) y e = absurd (none-some _ (sym e))
neither None (Some y) e = absurd (none-some _ (sym e))
neither None None e = refl

-- what holds of each key of a list holds of one at which something is found
found_holds : {K Y : Type 0} {R : K → K → Ordering} (same : IsAntisymmetric R) (P : K → Type 0) (q : K) (v : Y) (ts : List (K × Y)) → AllByRecursion P (map (λ t. t.0) ts) → find R q ts ≡ Some v → P q
found_holds same P q v [] h e = absurd (none-some v e)
found_holds {R = R} same P q v (t ∷ ts) h e = elim (eq_by_cmp R q t.0) as (λ b. eq_by_cmp R q t.0 ≡ b → cond b (Some t.1) (find R q ts) ≡ Some v → P q) [
  | true ↦ λ c f. subst P (sym (same q t.0 ((Equal-is (R q t.0)).0 c))) h.0
  | false ↦ λ c f. found_holds same P q v ts h.1 f
] refl e

-- what is told of a key by what two maps hold at it
abbrev pub Telling : Type 0 → Type 0 → Type 0 → Type 0
Telling K X A = K → Option X → Option X → List A

abbrev pub told_of : {K X A : Type 0} → Telling K X A → K × (Option X × Option X) → List A
told_of told t = told t.0 t.1.0 t.1.1

turned : {K : Type 0} {R : K → K → Ordering} → IsTotalOrder R → (k l : K) → R k l ≡ Greater → R l k ≡ Less
turned o k l e = o.antisymm l k ∙ ap ordering_reverse e

module _ {K X : Type 0} {R : K → K → Ordering} (o : IsTotalOrder R) (same : IsAntisymmetric R) where
  -- ---- the keys ascend

  below_through : (k l : K) (es : List (K × X)) → R k l ≡ Less → T (below_all R l es) → T (below_all R k es)
  below_through k l [] e h = tt
  below_through k l (x ∷ es) e h = and_both _ _ (lesser R k x.0 (o.trans k l x.0 e (less _ (and_first _ _ h)))) (below_through k l es e (and_second _ _ h))

  below_tied : (k l : K) (es : List (K × X)) → R k l ≡ Equal → T (below_all R l es) → T (below_all R k es)
  below_tied k l es e h = subst (λ x. T (below_all R x es)) (sym (same k l e)) h

  module _ (g : K × X → Side K X) (kept : (e : K × X) → (entry_of (g e)).0 ≡ e.0) where
    below_alone : (k : K) (es : List (K × X)) → T (below_all R k es) → T (below_all R k (map entry_of (map g es)))
    below_alone k [] h = tt
    below_alone k (e ∷ es) h = and_both _ _ (subst (λ x. T (is_lt (R k x))) (sym (kept e)) (and_first _ _ h)) (below_alone k es (and_second _ _ h))

    sorted_alone : (es : List (K × X)) → T (is_sorted R es) → T (is_sorted R (map entry_of (map g es)))
    sorted_alone [] h = tt
    sorted_alone (e ∷ es) h = and_both _ _ (subst (λ x. T (below_all R x (map entry_of (map g es)))) (sym (kept e)) (below_alone e.0 es (and_first _ _ h))) (sorted_alone es (and_second _ _ h))

  below_at : (k : K) (e : K × X) (es : List (K × X)) → T (below_all R k (e ∷ es))
      → ((fs : List (K × X)) → T (below_all R k fs) → T (below_all R k (sides R es fs)))
      → (fs : List (K × X)) → T (below_all R k fs) → T (below_all R k (sides R (e ∷ es) fs))
  below_at k e es h after [] t = and_both _ _ (and_first _ _ h) (below_alone (λ x. Left x) (λ x. refl) k es (and_second _ _ h))
  below_at k e es h after (f ∷ fs) t = elim (R e.0 f.0) as (λ r. T (below_all R k (map entry_of (by_ordering r (Left e ∷ merged R es (f ∷ fs)) (Both e f ∷ merged R es fs) (Right f ∷ merged R (e ∷ es) fs))))) [
    | Less ↦ and_both _ _ (and_first _ _ h) (after (f ∷ fs) t)
    | Equal ↦ and_both _ _ (and_first _ _ h) (after fs (and_second _ _ t))
    | Greater ↦ and_both _ _ (and_first _ _ t) (below_at k e es h after fs (and_second _ _ t))
  ]

  below_sides : (k : K) (es fs : List (K × X)) → T (below_all R k es) → T (below_all R k fs) → T (below_all R k (sides R es fs))
  below_sides k [] fs h t = below_alone (λ x. Right x) (λ x. refl) k fs t
  below_sides k (e ∷ es) fs h t = below_at k e es h (λ gs u. below_sides k es gs (and_second _ _ h) u) fs t

  sorted_at : (e : K × X) (es : List (K × X)) → T (is_sorted R (e ∷ es))
      → ((fs : List (K × X)) → T (is_sorted R fs) → T (is_sorted R (sides R es fs)))
      → (fs : List (K × X)) → T (is_sorted R fs) → T (is_sorted R (sides R (e ∷ es) fs))
  sorted_at e es h after [] t = and_both _ _ (below_alone (λ x. Left x) (λ x. refl) e.0 es (and_first _ _ h)) (sorted_alone (λ x. Left x) (λ x. refl) es (and_second _ _ h))
  sorted_at e es h after (f ∷ fs) t = elim (R e.0 f.0) as (λ r. R e.0 f.0 ≡ r → T (is_sorted R (map entry_of (by_ordering r (Left e ∷ merged R es (f ∷ fs)) (Both e f ∷ merged R es fs) (Right f ∷ merged R (e ∷ es) fs))))) [
    | Less ↦ λ c. and_both _ _
        (below_sides e.0 es (f ∷ fs) (and_first _ _ h) (and_both _ _ (lesser R e.0 f.0 c) (below_through e.0 f.0 fs c (and_first _ _ t))))
        (after (f ∷ fs) t)
    | Equal ↦ λ c. and_both _ _
        (below_sides e.0 es fs (and_first _ _ h) (below_tied e.0 f.0 fs c (and_first _ _ t)))
        (after fs (and_second _ _ t))
    | Greater ↦ λ c. and_both _ _
        (below_sides f.0 (e ∷ es) fs (and_both _ _ (lesser R f.0 e.0 (turned o e.0 f.0 c)) (below_through f.0 e.0 es (turned o e.0 f.0 c) (and_first _ _ h))) (and_first _ _ t))
        (sorted_at e es h after fs (and_second _ _ t))
  ] refl

  sorted_sides : (es fs : List (K × X)) → T (is_sorted R es) → T (is_sorted R fs) → T (is_sorted R (sides R es fs))
  sorted_sides [] fs h t = sorted_alone (λ x. Right x) (λ x. refl) fs t
  sorted_sides (e ∷ es) fs h t = sorted_at e es h (λ gs u. sorted_sides es gs (and_second _ _ h) u) fs t

  -- ---- at each key stands what the two hold there

  none_below : (q : K) (es : List (K × X)) → T (below_all R q es) → find R q es ≡ None
  none_below q [] h = refl
  none_below q (e ∷ es) h = ap (λ r. cond (is_eq r) (Some e.1) (find R q es)) (less _ (and_first _ _ h)) ∙ none_below q es (and_second _ _ h)

  none_at : (q k : K) (es : List (K × X)) → eq_by_cmp R q k ≡ true → T (below_all R k es) → find R q es ≡ None
  none_at q k es e h = none_below q es (below_tied q k es ((Equal-is (R q k)).0 e) h)

  found_right : (q : K) (fs : List (K × X)) → find R q (map entry_of (map (λ x. Right x) fs)) ≡ at_either None (find R q fs)
  found_right q [] = refl
  found_right q (f ∷ fs) = elim (eq_by_cmp R q f.0) as (λ b. cond b (Some (None, Some f.1)) (find R q (map entry_of (map (λ x. Right x) fs))) ≡ at_either None (cond b (Some f.1) (find R q fs))) [ true ↦ refl | false ↦ found_right q fs ]

  found_left : (q : K) (es : List (K × X)) → find R q (map entry_of (map (λ x. Left x) es)) ≡ at_either (find R q es) None
  found_left q [] = refl
  found_left q (e ∷ es) = elim (eq_by_cmp R q e.0) as (λ b. cond b (Some (Some e.1, None)) (find R q (map entry_of (map (λ x. Left x) es))) ≡ at_either (cond b (Some e.1) (find R q es)) None) [ true ↦ refl | false ↦ found_left q es ]

  -- of q and the entry that comes first
  abbrev Found : K → List (K × X) → List (K × X) → List (Side K X) → Type 0
  Found q es fs ss = find R q (map entry_of ss) ≡ at_either (find R q es) (find R q fs)

  first_less : (q : K) (e : K × X) (es fs : List (K × X)) → T (below_all R e.0 fs) → Found q es fs (merged R es fs) → Found q (e ∷ es) fs (Left e ∷ merged R es fs)
  first_less q e es fs h rest = elim (eq_by_cmp R q e.0) as (λ b. eq_by_cmp R q e.0 ≡ b → cond b (Some (Some e.1, None)) (find R q (sides R es fs)) ≡ at_either (cond b (Some e.1) (find R q es)) (find R q fs)) [
    | true ↦ λ c. ap (λ y. Some (Some e.1, y)) (sym (none_at q e.0 fs c h))
    | false ↦ λ c. rest
  ] refl

  first_greater : (q : K) (f : K × X) (es fs : List (K × X)) → T (below_all R f.0 es) → Found q es fs (merged R es fs) → Found q es (f ∷ fs) (Right f ∷ merged R es fs)
  first_greater q f es fs h rest = elim (eq_by_cmp R q f.0) as (λ b. eq_by_cmp R q f.0 ≡ b → cond b (Some (None, Some f.1)) (find R q (sides R es fs)) ≡ at_either (find R q es) (cond b (Some f.1) (find R q fs))) [
    | true ↦ λ c. ap (λ x. at_either x (Some f.1)) (sym (none_at q f.0 es c h))
    | false ↦ λ c. rest
  ] refl

  first_equal : (q : K) (e f : K × X) (es fs : List (K × X)) → R e.0 f.0 ≡ Equal → Found q es fs (merged R es fs) → Found q (e ∷ es) (f ∷ fs) (Both e f ∷ merged R es fs)
  first_equal q e f es fs tied rest = elim (eq_by_cmp R q e.0) as (λ b. eq_by_cmp R q f.0 ≡ b → cond b (Some (Some e.1, Some f.1)) (find R q (sides R es fs)) ≡ at_either (cond b (Some e.1) (find R q es)) (cond (eq_by_cmp R q f.0) (Some f.1) (find R q fs))) [
    | true ↦ λ c. ap (λ b. Some (Some e.1, cond b (Some f.1) (find R q fs))) (sym c)
    | false ↦ λ c. rest ∙ ap (λ b. at_either (find R q es) (cond b (Some f.1) (find R q fs))) (sym c)
  ] (ap (eq_by_cmp R q) (sym (same e.0 f.0 tied)))

  found_at : (q : K) (e : K × X) (es : List (K × X)) → T (is_sorted R (e ∷ es))
      → ((fs : List (K × X)) → T (is_sorted R fs) → Found q es fs (merged R es fs))
      → (fs : List (K × X)) → T (is_sorted R fs) → Found q (e ∷ es) fs (merged R (e ∷ es) fs)
  found_at q e es h after [] t = found_left q (e ∷ es)
  found_at q e es h after (f ∷ fs) t = elim (R e.0 f.0) as (λ r. R e.0 f.0 ≡ r → Found q (e ∷ es) (f ∷ fs) (by_ordering r (Left e ∷ merged R es (f ∷ fs)) (Both e f ∷ merged R es fs) (Right f ∷ merged R (e ∷ es) fs))) [
    | Less ↦ λ c. first_less q e es (f ∷ fs) (and_both _ _ (lesser R e.0 f.0 c) (below_through e.0 f.0 fs c (and_first _ _ t))) (after (f ∷ fs) t)
    | Equal ↦ λ c. first_equal q e f es fs c (after fs (and_second _ _ t))
    | Greater ↦ λ c. first_greater q f (e ∷ es) fs (and_both _ _ (lesser R f.0 e.0 (turned o e.0 f.0 c)) (below_through f.0 e.0 es (turned o e.0 f.0 c) (and_first _ _ h))) (found_at q e es h after fs (and_second _ _ t))
  ] refl

  found_sides : (q : K) (es fs : List (K × X)) → T (is_sorted R es) → T (is_sorted R fs) → Found q es fs (merged R es fs)
  found_sides q [] fs h t = found_right q fs
  found_sides q (e ∷ es) fs h t = found_at q e es h (λ gs u. found_sides q es gs (and_second _ _ h) u) fs t

  -- ---- as maps

  abbrev side_map : (m n : FiniteMap R X) → FiniteMap R (Option X × Option X)
  side_map m n = record { list = sides R m.list n.list; sorted = sorted_sides m.list n.list m.sorted n.sorted }

  get-side_map : (m n : FiniteMap R X) (q : K) → get (side_map m n) q ≡ at_either (get m q) (get n q)
  unfolding get
  get-side_map m n q = found_sides q m.list n.list m.sorted n.sorted

  keys-side_map : (m n : FiniteMap R X) → keys_of_either m n ≡ keys (side_map m n)
  unfolding entries get
  keys-side_map m n = same_keys (from_entries R (entries m ++ entries n)) (side_map m n) (same_map o same _ _ (λ q.
      get-domain (from_entries R (entries m ++ entries n)) q
      ∙ ap (option_map (λ x. tt {0})) (get-from_entries o same (entries m ++ entries n) q)
      ∙ held_by_either R q m.list n.list
      ∙ ap (option_map (λ x. tt {0})) (sym (found_sides q m.list n.list m.sorted n.sorted))
      ∙ sym (get-domain (side_map m n) q)))

  -- what is told of each entry is what is told of its key
  each_told : {A : Type 0} (told : Telling K X A) (m n : FiniteMap R X) (ts : List (K × (Option X × Option X))) → AllByRecursion (λ t. get (side_map m n) t.0 ≡ Some t.1) ts
      → flat_map (told_of told) ts ≡ flat_map (λ k. told k (get m k) (get n k)) (map (λ t. t.0) ts)
  each_told told m n [] h = refl
  each_told told m n (t ∷ ts) h = ap₂ (λ xs ys. xs ++ ys)
      (ap (λ v. told t.0 v.0 v.1) (of_either (get m t.0) (get n t.0) t.1 (sym (get-side_map m n t.0) ∙ h.0)))
      (each_told told m n ts h.1)

  -- of the entries of two maps, side by side, is told what is told of the keys of either
  pub told_sides : {A : Type 0} (told : Telling K X A) (m n : FiniteMap R X)
      → flat_map (λ s. told_of told (entry_of s)) (merged R (entries m) (entries n)) ≡ flat_map (λ k. told k (get m k) (get n k)) (keys_of_either m n)
  unfolding entries keys
  told_sides told m n =
      flat_map-map (told_of told) entry_of (merged R (entries m) (entries n))
      ∙ listed
      ∙ ap (flat_map (λ k. told k (get m k) (get n k))) (sym (keys-side_map m n))
    where
      listed : flat_map (told_of told) (map entry_of (merged R (entries m) (entries n))) ≡ flat_map (λ k. told k (get m k) (get n k)) (keys (side_map m n))
      listed = each_told told m n (entries (side_map m n)) (each_entry o (side_map m n))

  -- where nothing is told exactly of what is the same, nothing is told of two maps exactly where they are the same
  pub nothing_told : {A : Type 0} (told : Telling K X A) → ((k : K) (x y : Option X) → told k x y ≡ [] → x ≡ y) → (m n : FiniteMap R X)
      → flat_map (λ k. told k (get m k) (get n k)) (keys_of_either m n) ≡ [] → m ≡ n
  unfolding get keys
  nothing_told {A = A} told tells m n e = same_map o same m n (λ q. elim (get (side_map m n) q) as (λ g. get (side_map m n) q ≡ g → get m q ≡ get n q) [
    | None ↦ λ g. neither (get m q) (get n q) (sym (get-side_map m n q) ∙ g)
    | Some v ↦ λ g. tells q (get m q) (get n q) (holds q v g)
  ] refl)
    where
      text : K → List A
      text k = told k (get m k) (get n k)

      none : AllByRecursion (λ k. text k ≡ []) (keys (side_map m n))
      none = each_empty text (keys (side_map m n)) (ap (flat_map text) (sym (keys-side_map m n)) ∙ e)

      holds : (q : K) (v : Option X × Option X) → get (side_map m n) q ≡ Some v → text q ≡ []
      holds q v g = found_holds same (λ k. text k ≡ []) q v (sides R m.list n.list) none g

  pub nothing_of_same : {A : Type 0} (told : Telling K X A) → ((k : K) (x : Option X) → told k x x ≡ []) → (m n : FiniteMap R X)
      → m ≡ n → flat_map (λ k. told k (get m k) (get n k)) (keys_of_either m n) ≡ []
  nothing_of_same told tells m n e = subst (λ z. flat_map (λ k. told k (get m k) (get z k)) (keys_of_either m z) ≡ []) e (all_empty (λ k. told k (get m k) (get m k)) (λ k. tells k (get m k)) (keys_of_either m m))
