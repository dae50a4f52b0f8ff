-- Keys by ascending texts are the keys by ascending paths.
use Rattle.std.proofs.Common.{◌≡◌, ◌≢◌, ℕ, zero, suc, ◌+◌, ◌<◌, ◌≤◌, ◌==◌, Bool, true, false, cond, List, [], ◌∷◌, ◌++◌, map, length, get_or, take, Option, None, Some, Contains, refl, sym, ap, subst, ◌∙◌, arith, true≢false, eq-eqb}
use Rattle.std.specs.List.{AllByRecursion, IsDistinct, slice_get}
use Rattle.std.specs.List.Sorted.{IsPermutation, IsStrictlySortedBy}
use Rattle.std.specs.declared.cmp.Ordering.{Ordering}
use Rattle.std.specs.declared.cmp.Ordering.TheVariants.{Less, Equal, Greater}
use Rattle.std.specs.Ordering.{nat_cmp, is_lt, eq_by_cmp, ordering_reverse}
use Rattle.std.specs.Cmp.Lexicographic.{slice_cmp, nat_list_cmp_total}
use Rattle.std.specs.FinMap.{slice_cmp-IsAntisymmetric, nat_cmp-IsAntisymmetric}
use Rattle.std.specs.FinMap.Entries.{find}
use Rattle.std.specs.Map.{keys_of}
use Rattle.std.proofs.lemmas.List.{length-map}
use Rattle.std.proofs.lemmas.List.Elements.{All-from_recursion, recursion_from_All}
use Rattle.std.proofs.lemmas.List.Sorted.{IsPermutation-map, All-permutation, Contains-permutation, IsPermutation-sym}
use Rattle.std.proofs.lemmas.Map.Keys.{IsDistinct-from_apart, apart_from_distinct, IsDistinct-IsPermutation, sorted_from_all_adjacent}
use Rattle.std.proofs.lemmas.Option.{slice_get_within, slice_get-get_or, get_or_from_slice_get}
use borrow.Author.Tests.{ne_eqb}
use Rattle.cg_maps.specs.FiniteMap.{FiniteMap, from_entries, get, entries, retain}
use Rattle.cg_maps.proofs.Maps.{same_map, get-retain}
use Rattle.cg_name.specs.Order.{path_cmp_total, path_cmp_exact}
use Rattle.cg_name.specs.Path.{Path, path_cmp}
use Rattle.cg_name.specs.Packed.{names_in}
use Rattle.cg_path_tree.specs.PathEntries.{by_paths, ArePacked}
use Rattle.cg_path_tree.proofs.PathEntries.{path_entries, entries-by_paths}
use Rattle.slab.specs.Slab as slab
use Rattle.cg_path_tree.specs.declared.node.Node.{Node}
use Rattle.cg_path_tree.specs.declared.node.NodeKey.{NodeKey}
use Rattle.cg_path_tree.specs.Linked.{children_in, node_in, IsLinked, seen}
use Rattle.cg_path_tree.specs.Nodes.{Nodes, with_paths, ArePassing, HaveOnePath, IsKey}
use Rattle.cg_path_tree.specs.Listing.{keys_in, IsText, AreTexts, AreInOrder}
use Rattle.cg_path_tree.proofs.ListChanges.{same_some, some_not_none, contains_at, at_contained, at_mapped, mapped_at}
use Rattle.cg_path_tree.proofs.Finding.{get_by_find, standing_of, absent_by, itself}
use Rattle.cg_path_tree.proofs.Ordered.{keys_among, key_stands, entry_stands}
use Rattle.cg_path_tree.proofs.Linking.{one_entry}
use Rattle.cg_path_tree.proofs.Seen.{found_is, key_of_entry}
use Rattle.cg_path_tree.proofs.Changing.{path_of-is}

-- ---- lists by places

pub each_at : {A : Type 0} (P : A → Type 0) (xs : List A) → AllByRecursion P xs → (j : ℕ) (x : A) → slice_get xs j ≡ Some x → P x
each_at P [] a j x h = absurd (some_not_none x None h refl)
each_at P (y ∷ ys) a zero x h = subst P (same_some y x h) a.0
each_at P (y ∷ ys) a (suc j) x h = each_at P ys a.1 j x h

pub all_from_each : {A : Type 0} (P : A → Type 0) (xs : List A) → ((j : ℕ) (x : A) → slice_get xs j ≡ Some x → P x) → AllByRecursion P xs
all_from_each P [] h = tt
all_from_each P (x ∷ xs) h = (h 0 x refl, all_from_each P xs (λ j. h (suc j)))

pub all_pushed : {A : Type 0} (P : A → Type 0) (xs : List A) (x : A) → AllByRecursion P xs → P x → AllByRecursion P (xs ++ x ∷ [])
all_pushed P [] x a h = (h, tt)
all_pushed P (y ∷ ys) x a h = (a.0, all_pushed P ys x a.1 h)

-- what isn't found stands nowhere
stands_nowhere : {X : Type 0} (es : List (Path × X)) (p : Path) → find path_cmp p es ≡ None → (j : ℕ) (e : Path × X) → slice_get es j ≡ Some e → e.0 ≢ p
stands_nowhere [] p none j e h same = some_not_none e None h refl
stands_nowhere {X} (f ∷ es) p none j e h same = by (eq_by_cmp path_cmp p f.0) refl j h (λ rest i. stands_nowhere es p rest i e)
  where
    by : (b : Bool) → eq_by_cmp path_cmp p f.0 ≡ b → (j : ℕ) → slice_get (f ∷ es) j ≡ Some e → (find path_cmp p es ≡ None → (i : ℕ) → slice_get es i ≡ Some e → e.0 ≢ p) → ⊥
    by true t j h rest = some_not_none f.1 (find path_cmp p (f ∷ es)) (ap (λ b. cond b (Some f.1) (find path_cmp p es)) t) none
    by false t zero h rest = true≢false (sym (ap (λ q. eq_by_cmp path_cmp p q) (ap (λ (x : Path × X). x.0) (same_some f e h) ∙ same) ∙ itself p) ∙ t)
    by false t (suc j) h rest = rest (sym (ap (λ b. cond b (Some f.1) (find path_cmp p es)) t) ∙ none) j h same

pub take_all : {A : Type 0} (n : ℕ) (xs : List A) → length xs ≤ n → take n xs ≡ xs
take_all zero [] low = refl
take_all (suc n) [] low = refl
take_all zero (x ∷ xs) low = absurd (omega arith)
take_all (suc n) (x ∷ xs) low = ap (λ ys. x ∷ ys) (take_all n xs (omega arith))

pub item_at : {A : Type 0} (xs : List A) (j : ℕ) → j < length xs → (x : A) × (slice_get xs j ≡ Some x)
item_at [] j low = absurd (omega arith)
item_at (x ∷ xs) zero low = (x, refl)
item_at (x ∷ xs) (suc j) low = item_at xs j (omega arith)

-- neighbours stay so where each item is mapped
pub adjacent_mapped : {A B : Type 0} (f : A → B) (test : B → B → Bool) (xs : List A) → ((k : ℕ) (d : A) → 0 ≤ k → k + 1 < length xs → test (f (get_or xs (k + 1) d)) (f (get_or xs k d)) ≡ false)
    → (k : ℕ) (d : B) → 0 ≤ k → k + 1 < length (map f xs) → test (get_or (map f xs) (k + 1) d) (get_or (map f xs) k d) ≡ false
adjacent_mapped f test xs adjacent k d low within =
    let next : k + 1 < length xs = omega (arith, length-map xs f) in
    let x = item_at xs k (omega arith) in
    let y = item_at xs (k + 1) next in
    let a : get_or (map f xs) k d ≡ f (get_or xs k x.0) = get_or_from_slice_get (map f xs) k (f x.0) d (at_mapped f xs k x.0 x.1) ∙ ap f (sym (get_or_from_slice_get xs k x.0 x.0 x.1)) in
    let b : get_or (map f xs) (k + 1) d ≡ f (get_or xs (k + 1) x.0) = get_or_from_slice_get (map f xs) (k + 1) (f y.0) d (at_mapped f xs (k + 1) y.0 y.1) ∙ ap f (sym (get_or_from_slice_get xs (k + 1) y.0 x.0 y.1)) in
    (λ i. test (b i) (a i)) ∙ adjacent k x.0 low next

-- ---- keys that stand once

abbrev same_key : NodeKey → NodeKey → Bool
same_key a b = a.0 == b.0

flips : (a b : NodeKey) → same_key a b ≡ same_key b a
flips a b = grind arith

abbrev pub StandOnce : List NodeKey → Type 0
StandOnce ks = (i j : ℕ) (k : NodeKey) → slice_get ks i ≡ Some k → slice_get ks j ≡ Some k → i ≡ j

distinct_from_once : (ks : List NodeKey) → StandOnce ks → IsDistinct same_key ks
distinct_from_once ks once = IsDistinct-from_apart same_key ks (λ i j d less low.
    let low' : i < length ks = omega arith in
    ne_eqb (get_or ks i d).0 (get_or ks j d).0 (λ same.
    let is : get_or ks i d ≡ get_or ks j d = λ t. record { 0 = same t } in
    let at : i ≡ j = once i j (get_or ks j d) (slice_get-get_or ks i d low' ∙ ap Some is) (slice_get-get_or ks j d low) in
    absurd (omega arith)))

-- ---- in order

not_below : (o : Ordering) → is_lt (ordering_reverse o) ≡ false → o ≢ Equal → o ≡ Less
not_below Less h ne = refl
not_below Equal h ne = absurd (ne refl)
not_below Greater h ne = absurd (true≢false h)

module _ (keys m : FiniteMap path_cmp NodeKey) (one : HaveOnePath keys) (es : List (List ℕ × NodeKey)) (ks : List NodeKey) (texts : AreTexts keys es) (once : StandOnce (keys_in es)) (order : AreInOrder es ks)
    (inside : (q : Path) (k : NodeKey) → get m q ≡ Some k → get keys q ≡ Some k) (each : (q : Path) (k : NodeKey) → get m q ≡ Some k → Contains (keys_in es) k)
    (only : (q : Path) (k : NodeKey) → Contains (keys_in es) k → get keys q ≡ Some k → get m q ≡ Some k) where
  abbrev ss : List (List ℕ × NodeKey)
  ss = order.entries

  moved : IsPermutation (keys_in es) (keys_in ss)
  moved = IsPermutation-map (λ (e : List ℕ × NodeKey). e.1) es ss order.same

  all_texts : AreTexts keys ss
  all_texts = recursion_from_All (IsText keys) ss (All-permutation (IsText keys) es ss order.same (All-from_recursion (IsText keys) es texts))

  text_at : (j : ℕ) (e : List ℕ × NodeKey) → slice_get ss j ≡ Some e → IsText keys e
  text_at = each_at (IsText keys) ss all_texts

  packed_all : (xs : List (List ℕ × NodeKey)) → AreTexts keys xs → ArePacked (λ t. t) xs
  packed_all [] a = tt
  packed_all (x ∷ xs) a = (a.0.packed, packed_all xs a.1)

  named : (xs : List (List ℕ × NodeKey)) → AreTexts keys xs → with_paths keys (keys_in xs) ≡ by_paths (λ t. t) xs
  named [] a = refl
  named (x ∷ xs) a = λ i. (path_of-is keys x.1 (names_in x.0) one a.0.found i, x.1) ∷ named xs a.1 i

  length-keys_of : (xs : List (List ℕ × NodeKey)) → length (keys_of xs) ≡ length xs
  length-keys_of [] = refl
  length-keys_of (x ∷ xs) = ap suc (length-keys_of xs)

  at_key : (xs : List (List ℕ × NodeKey)) (j : ℕ) (x : List ℕ × NodeKey) → slice_get xs j ≡ Some x → slice_get (keys_of xs) j ≡ Some x.0
  at_key [] j x h = absurd (some_not_none x None h refl)
  at_key (y ∷ ys) zero x h = ap (λ (z : List ℕ × NodeKey). Some z.0) (same_some y x h)
  at_key (y ∷ ys) (suc j) x h = at_key ys j x h

  distinct : IsDistinct same_key (keys_in ss)
  distinct = IsDistinct-IsPermutation same_key flips (keys_in es) (keys_in ss) moved (distinct_from_once (keys_in es) once)

  next_above : (j : ℕ) (e f : List ℕ × NodeKey) → slice_get ss j ≡ Some e → slice_get ss (j + 1) ≡ Some f → slice_cmp nat_cmp e.0 f.0 ≡ Less
  next_above j e f h l =
      let low : j + 1 < length ss = slice_get_within ss (j + 1) f l in
      let low' : j + 1 < length (keys_in ss) = omega (arith, length-map ss (λ (x : List ℕ × NodeKey). x.1)) in
      let behind : is_lt (slice_cmp nat_cmp f.0 e.0) ≡ false = ap (λ b. is_lt (slice_cmp nat_cmp b.0 e.0)) (sym (get_or_from_slice_get ss (j + 1) f e l)) ∙ ap (λ b. is_lt (slice_cmp nat_cmp (get_or ss (j + 1) e).0 b.0)) (sym (get_or_from_slice_get ss j e e h)) ∙ order.ascend j e (omega arith) low in
      let turned : is_lt (ordering_reverse (slice_cmp nat_cmp e.0 f.0)) ≡ false = ap is_lt (sym (nat_list_cmp_total.antisymm f.0 e.0)) ∙ behind in
      not_below (slice_cmp nat_cmp e.0 f.0) turned (λ tied.
      let text : e.0 ≡ f.0 = slice_cmp-IsAntisymmetric nat_cmp-IsAntisymmetric e.0 f.0 tied in
      let key : e.1 ≡ f.1 = same_some e.1 f.1 (sym (text_at j e h).found ∙ ap (λ t. get keys (names_in t)) text ∙ (text_at (j + 1) f l).found) in
      let a : get_or (keys_in ss) j e.1 ≡ e.1 = get_or_from_slice_get (keys_in ss) j e.1 e.1 (at_mapped (λ (x : List ℕ × NodeKey). x.1) ss j e h) in
      let b : get_or (keys_in ss) (j + 1) e.1 ≡ f.1 = get_or_from_slice_get (keys_in ss) (j + 1) f.1 e.1 (at_mapped (λ (x : List ℕ × NodeKey). x.1) ss (j + 1) f l) in
      let differ = apart_from_distinct same_key (keys_in ss) j (j + 1) e.1 distinct (omega arith) low' in
      true≢false (sym (eq-eqb (get_or (keys_in ss) j e.1).0 (get_or (keys_in ss) (j + 1) e.1).0 (ap (λ (x : NodeKey). x.0) (a ∙ key ∙ sym b))) ∙ differ))

  ascending : IsStrictlySortedBy (slice_cmp nat_cmp) (keys_of ss)
  ascending = sorted_from_all_adjacent nat_list_cmp_total (keys_of ss) [] (λ j low.
      let next : j + 1 < length ss = omega (arith, length-keys_of ss) in
      let e = item_at ss j (omega arith) in
      let f = item_at ss (j + 1) next in
      ap (λ t. slice_cmp nat_cmp t (get_or (keys_of ss) (j + 1) [])) (get_or_from_slice_get (keys_of ss) j e.0.0 [] (at_key ss j e.0 e.1))
      ∙ ap (slice_cmp nat_cmp e.0.0) (get_or_from_slice_get (keys_of ss) (j + 1) f.0.0 [] (at_key ss (j + 1) f.0 f.1))
      ∙ next_above j e.0 f.0 e.1 f.1)

  abbrev bs : List (Path × NodeKey)
  bs = by_paths (λ t. t) ss

  standing : (xs : List (List ℕ × NodeKey)) (j : ℕ) (e : Path × NodeKey) → slice_get (by_paths (λ t. t) xs) j ≡ Some e → (x : List ℕ × NodeKey) × (slice_get xs j ≡ Some x) × (names_in x.0 ≡ e.0) × (x.1 ≡ e.1)
  standing [] j e h = absurd (some_not_none e None h refl)
  standing (x ∷ xs) zero e h = let same : ◌≡◌ {A = Path × NodeKey} (names_in x.0, x.1) e = same_some (names_in x.0, x.1) e h in (x, refl, ap (λ (y : Path × NodeKey). y.0) same, ap (λ (y : Path × NodeKey). y.1) same)
  standing (x ∷ xs) (suc j) e h = standing xs j e h

  stands : (xs : List (List ℕ × NodeKey)) (j : ℕ) (x : List ℕ × NodeKey) → slice_get xs j ≡ Some x → slice_get (by_paths (λ t. t) xs) j ≡ Some (names_in x.0, x.1)
  stands [] j x h = absurd (some_not_none x None h refl)
  stands (y ∷ ys) zero x h = ap (λ (z : List ℕ × NodeKey). Some (names_in z.0, z.1)) (same_some y x h)
  stands (y ∷ ys) (suc j) x h = stands ys j x h

  same_found : (q : Path) (o : Option NodeKey) → find path_cmp q bs ≡ o → get m q ≡ o
  same_found q None none = absent_by (get m q) (λ k there.
      let has = at_contained (keys_in ss) k (Contains-permutation (keys_in es) (keys_in ss) k moved (each q k there)) in
      let x = mapped_at (λ (e : List ℕ × NodeKey). e.1) ss has.0 k has.1 in
      let path : names_in x.0.0 ≡ q = one (names_in x.0.0) q k ((text_at has.0 x.0 x.1).found ∙ ap Some x.2) (inside q k there) in
      stands_nowhere bs q none has.0 (names_in x.0.0, x.0.1) (stands ss has.0 x.0 x.1) path)
  same_found q (Some k) some =
      let at = standing_of bs q k some in
      let x = standing ss at.0 (q, k) at.1 in
      let listed = contains_at (keys_in ss) at.0 k (at_mapped (λ (e : List ℕ × NodeKey). e.1) ss at.0 x.0 x.1 ∙ ap Some x.3) in
      only q k (Contains-permutation (keys_in ss) (keys_in es) k (IsPermutation-sym (keys_in es) (keys_in ss) moved) listed)
      (ap (get keys) (sym x.2) ∙ (text_at at.0 x.0 x.1).found ∙ ap Some x.3)

  pub in_order : with_paths keys ks ≡ entries m
  in_order =
      ap (with_paths keys) order.keys
      ∙ named ss all_texts
      ∙ sym (entries-by_paths (λ t. t) ss (path_entries (λ t. t) ss (packed_all ss all_texts) ascending))
      ∙ ap entries (same_map path_cmp_total path_cmp_exact (from_entries path_cmp bs) m (λ q. get_by_find bs q ∙ sym (same_found q (find path_cmp q bs) refl)))

-- ---- the nodes that pass a test

pub passing_in_order : (keys : FiniteMap path_cmp NodeKey) (test : Path → Bool) (es : List (List ℕ × NodeKey)) (ks : List NodeKey) → HaveOnePath keys → AreTexts keys es → StandOnce (keys_in es) → AreInOrder es ks
    → ArePassing keys test (keys_in es) → with_paths keys ks ≡ entries (retain keys test)
passing_in_order keys test es ks one texts once order passing =
    in_order keys (retain keys test) one es ks texts once order
    (λ q k h. (kept q k (test q) refl h).1)
    (λ q k h. let x = kept q k (test q) refl h in (passing q k x.1).0 x.0)
    (λ q k has h. get-retain path_cmp_total path_cmp_exact keys test q ∙ ap (λ b. cond b (get keys q) None) ((passing q k h).1 has) ∙ h)
  where
    kept : (q : Path) (k : NodeKey) (b : Bool) → test q ≡ b → get (retain keys test) q ≡ Some k → (test q ≡ true) × (get keys q ≡ Some k)
    kept q k true t h = (t, sym (get-retain path_cmp_total path_cmp_exact keys test q ∙ ap (λ b. cond b (get keys q) None) t) ∙ h)
    kept q k false t h = absurd (some_not_none k (get (retain keys test) q) h (get-retain path_cmp_total path_cmp_exact keys test q ∙ ap (λ b. cond b (get keys q) None) t))

-- ---- all nodes

all_kept : (keys : FiniteMap path_cmp NodeKey) → retain keys (λ _. true) ≡ keys
all_kept keys = same_map path_cmp_total path_cmp_exact _ _ (λ q. get-retain path_cmp_total path_cmp_exact keys (λ _. true) q)

module _ {V : Type 0} (es : List (Path × NodeKey)) (nodes : slab.Slab (Node V)) (l : IsLinked es nodes) (g : Nodes V) (is : seen es nodes ≡ g) (order : List NodeKey) (ordered : keys_among es ≡ order) where
  pub all_live : (j : ℕ) (k : NodeKey) → slice_get order j ≡ Some k → IsKey g.keys k
  all_live j k h =
      let e = entry_stands es order ordered j k h in
      subst (IsKey g.keys) e.2 (key_of_entry es nodes l g is j e.0 e.1)

  pub all_once : StandOnce order
  all_once i j k a b =
      let x = entry_stands es order ordered i k a in
      let y = entry_stands es order ordered j k b in
      one_entry (children_in es) es (node_in nodes) l.tree i j x.0 y.0 x.1 y.1 (x.2 ∙ sym y.2)

  pub all_listed : (k : NodeKey) → IsKey g.keys k → (j : ℕ) × (slice_get order j ≡ Some k)
  all_listed k key =
      let at = standing_of es key.0 k (found_is es nodes l g is key.0 ∙ key.1) in
      (at.0, key_stands es order ordered at.0 (key.0, k) at.1)

  all_pass : ArePassing g.keys (λ _. true) order
  all_pass q k h = (
    (λ _.
        let at = all_listed k (q, h) in
        contains_at order at.0 k at.1),
    (λ _. refl),
  )

  pub all_sorted : (ks : List NodeKey) → ((test : Path → Bool) → ArePassing g.keys test order → with_paths g.keys ks ≡ entries (retain g.keys test)) → with_paths g.keys ks ≡ entries g.keys
  all_sorted ks h = h (λ _. true) all_pass ∙ ap entries (all_kept g.keys)
