-- Groups as they are listed of nodes, and as the map has them.
use Rattle.std.proofs.Common.{◌≡◌, ℕ, zero, suc, Bool, true, false, not, cond, List, [], ◌∷◌, filter, Option, Some, None, option_map, is_some, slice_get, length, drop, add-one, ◌+◌, ◌==◌, nat_lt, refl, sym, ap, subst, ◌∙◌, arith}
use Rattle.std.proofs.lemmas.Bool.Decides.{nat_tests}
use Rattle.std.specs.Option.{option_flatten}
use Rattle.std.specs.List.{AllByRecursion}
use Rattle.std.proofs.lemmas.Option.{none-some, same_Some}
use Rattle.cg_maps.specs.FiniteMap.{FiniteMap, bare, domain, entries, get, len, retain, is_nonempty}
use Rattle.cg_maps.proofs.Maps.{each_entry}
use Rattle.cg_name.specs.Order.{path_cmp_total}
use Rattle.cg_name.specs.Path.{Path, path_cmp}
use Rattle.cg_path_tree.specs.declared.node.NodeKey.{NodeKey}
use Rattle.cg_path_tree.specs.Nodes.{Nodes, path_of, with_paths}
use Rattle.cg_text.specs.declared.settings.Settings.{Settings}
use Rattle.cg_tree.specs.declared.entry.Entry.{Entry}
use Rattle.cg_tree.specs.Entries.{groups_in, path_at, settings_of}
use Rattle.cg_tree.specs.Listing.{listed, settings_at, AreKeys}
use Rattle.cg_tree.specs.Present.{present, held_entries, with_held}
use Rattle.cg_tree.specs.Seen.{seen}
use Rattle.cg_tree.proofs.Presence.{entries-present}
use Rattle.cg_tree.proofs.Putting.{same_keys}
use Rattle.cg_tree.proofs.Seeing.{entries-seen}

-- ---- the first parts of pairs

abbrev firsts : {A B : Type 0} → List (A × B) → List A
firsts [] = []
firsts (e ∷ es) = e.0 ∷ firsts es

firsts-bare : {K X : Type 0} (es : List (K × X)) → firsts (bare es) ≡ firsts es
firsts-bare [] = refl
firsts-bare (e ∷ es) = ap (λ z. e.0 ∷ z) (firsts-bare es)

firsts-filter : {A B : Type 0} (test : A → Bool) (es : List (A × B)) → firsts (filter (λ e. test e.0) es) ≡ filter test (firsts es)
firsts-filter test [] = refl
firsts-filter test (e ∷ es) =
    let rest = firsts-filter test es in
    elim (test e.0) as (λ b. firsts (cond b (e ∷ filter (λ x. test x.0) es) (filter (λ x. test x.0) es)) ≡ cond b (e.0 ∷ filter test (firsts es)) (filter test (firsts es))) [
      | true ↦ ap (λ z. e.0 ∷ z) rest
      | false ↦ rest
    ]

firsts-domain : {X : Type 0} (m : FiniteMap path_cmp X) → firsts (entries m) ≡ firsts (entries (domain m))
unfolding entries domain
firsts-domain m = sym (firsts-bare m.list)

still_all : {A : Type 0} (P : A → Type 0) (test : A → Bool) (xs : List A) → AllByRecursion P xs → AllByRecursion P (filter test xs)
still_all P test [] h = tt
still_all P test (x ∷ xs) h =
    let rest = still_all P test xs h.1 in
    elim (test x) as (λ b. AllByRecursion P (cond b (x ∷ filter test xs) (filter test xs))) [
      | true ↦ (h.0, rest)
      | false ↦ rest
    ]

pub kept_here : {X : Type 0} (m : FiniteMap path_cmp X) (test : Path → Bool) → filter (λ e. test e.0) (entries m) ≡ entries (retain m test)
unfolding entries retain
kept_here m test = refl

module _ (n : Nodes Entry) (both : (p : Path) → is_some (get n.values p) ≡ is_some (get n.keys p)) where
  -- ---- groups by their paths

  abbrev held_by : Path → Option Settings
  held_by p = option_flatten (option_map settings_of (get n.values p))

  abbrev by_paths : List Path → List (Path × Settings)
  by_paths [] = []
  by_paths (p ∷ ps) = with_held p (held_by p) (by_paths ps)

  by_keys : (ks : List NodeKey) → listed n ks ≡ by_paths (firsts (with_paths n.keys ks))
  by_keys [] = refl
  by_keys (k ∷ ks) = ap (with_held (path_at n k) (settings_at n k)) (by_keys ks)

  by_entries : (es : List (Path × Entry)) → AllByRecursion (λ e. get n.values e.0 ≡ Some e.1) es → by_paths (firsts es) ≡ held_entries (seen settings_of es)
  by_entries [] h = refl
  by_entries (e ∷ es) h = (λ i. with_held e.0 (option_flatten (option_map settings_of (h.0 i))) (by_entries es h.1 i))

  first_passes : (test : Path → Bool) (p : Path) (w : Option Settings) (rest : List (Path × Settings)) (b : Bool) → test p ≡ b → filter (λ e. test e.0) (with_held p w rest) ≡ cond b (with_held p w (filter (λ e. test e.0) rest)) (filter (λ e. test e.0) rest)
  first_passes test p None rest true h = refl
  first_passes test p None rest false h = refl
  first_passes test p (Some x) rest b h = ap (λ c. cond c ((p, x) ∷ filter (λ e. test e.0) rest) (filter (λ e. test e.0) rest)) h

  by_paths-filter : (test : Path → Bool) (ps : List Path) → by_paths (filter test ps) ≡ filter (λ e. test e.0) (by_paths ps)
  by_paths-filter test [] = refl
  by_paths-filter test (p ∷ ps) = at (test p) refl (by_paths-filter test ps)
    where
      at : (b : Bool) → test p ≡ b → by_paths (filter test ps) ≡ filter (λ e. test e.0) (by_paths ps) → by_paths (cond b (p ∷ filter test ps) (filter test ps)) ≡ filter (λ e. test e.0) (with_held p (held_by p) (by_paths ps))
      at true h rest = ap (with_held p (held_by p)) rest ∙ sym (first_passes test p (held_by p) (by_paths ps) true h)
      at false h rest = rest ∙ sym (first_passes test p (held_by p) (by_paths ps) false h)

  same_firsts : firsts (entries n.keys) ≡ firsts (entries n.values)
  same_firsts = firsts-domain n.keys ∙ ap (λ d. firsts (entries d)) (sym (same_keys n both)) ∙ sym (firsts-domain n.values)

  all_by_paths : by_paths (firsts (entries n.keys)) ≡ entries (present (groups_in n.values))
  all_by_paths =
      ap by_paths same_firsts
      ∙ by_entries (entries n.values) (each_entry path_cmp_total n.values)
      ∙ ap held_entries (sym (entries-seen settings_of n.values))
      ∙ sym (entries-present (groups_in n.values))

  -- ---- all nodes, and those right below one

  pub listed_all : (ks : List NodeKey) → with_paths n.keys ks ≡ entries n.keys → listed n ks ≡ entries (present (groups_in n.values))
  listed_all ks h = by_keys ks ∙ ap (λ es. by_paths (firsts es)) h ∙ all_by_paths

  pub listed_where : (test : Path → Bool) (ks : List NodeKey) → with_paths n.keys ks ≡ entries (retain n.keys test) → listed n ks ≡ entries (retain (present (groups_in n.values)) test)
  listed_where test ks h =
      by_keys ks
      ∙ ap (λ es. by_paths (firsts es)) (h ∙ sym (kept_here n.keys test))
      ∙ ap by_paths (firsts-filter test (entries n.keys))
      ∙ by_paths-filter test (firsts (entries n.keys))
      ∙ ap (filter (λ e. test e.0)) all_by_paths
      ∙ kept_here (present (groups_in n.values)) test

-- ---- each key in such a list is that of a node

abbrev AreHeld : (n : Nodes Entry) → List (Path × NodeKey) → Type 0
AreHeld n es = AllByRecursion {X = Path × NodeKey} (λ e. get n.keys e.0 ≡ Some e.1) es

keys_in : (n : Nodes Entry) (ks : List NodeKey) → AreHeld n (with_paths n.keys ks) → AreKeys n ks
keys_in n [] h i k at = absurd (none-some k at)
keys_in n (x ∷ ks) h zero k at = let held : get n.keys (path_of n.keys x) ≡ Some x = h.0 in (path_of n.keys x, held ∙ at)
keys_in n (x ∷ ks) h (suc i) k at = keys_in n ks h.1 i k at

pub all_keys : (n : Nodes Entry) (ks : List NodeKey) → with_paths n.keys ks ≡ entries n.keys → AreKeys n ks
all_keys n ks h = keys_in n ks (subst (AreHeld n) (sym h) (each_entry path_cmp_total n.keys))

pub keys_where : (n : Nodes Entry) (test : Path → Bool) (ks : List NodeKey) → with_paths n.keys ks ≡ entries (retain n.keys test) → AreKeys n ks
keys_where n test ks h = keys_in n ks (subst (AreHeld n) (sym (h ∙ sym (kept_here n.keys test))) (still_all (λ e. get n.keys e.0 ≡ Some e.1) (λ e. test e.0) (entries n.keys) (each_entry path_cmp_total n.keys)))

-- ---- a list is empty where its length is 0

pub positive : (n : ℕ) → nat_lt 0 n ≡ not (n == 0)
positive zero = refl
positive (suc n) = grind (arith, nat_tests)

pub no_entries : {X : Type 0} (m : FiniteMap path_cmp X) → len m ≡ 0 → entries m ≡ []
unfolding entries len
no_entries m h = at m.list h
  where
    at : {A : Type 0} (xs : List A) → length xs ≡ 0 → xs ≡ []
    at [] e = refl
    at (x ∷ xs) e = absurd (omega arith)

pub nonempty_by_len : {X : Type 0} (m : FiniteMap path_cmp X) → is_nonempty (entries m) ≡ not (len m == 0)
unfolding entries len
nonempty_by_len m = at m.list
  where
    at : {A : Type 0} (xs : List A) → is_nonempty xs ≡ not (length xs == 0)
    at [] = refl
    at (x ∷ xs) = grind (arith, nat_tests)

-- ---- a list from one place on

pub from_place : (n : Nodes Entry) (ks : List NodeKey) (i : ℕ) (k : NodeKey) → slice_get ks i ≡ Some k → listed n (drop i ks) ≡ with_held (path_at n k) (settings_at n k) (listed n (drop (i + 1) ks))
from_place n ks i k h = at ks i h ∙ ap (λ j. with_held (path_at n k) (settings_at n k) (listed n (drop j ks))) (sym (add-one i))
  where
    at : (xs : List NodeKey) (j : ℕ) → slice_get xs j ≡ Some k → listed n (drop j xs) ≡ with_held (path_at n k) (settings_at n k) (listed n (drop (suc j) xs))
    at [] j e = absurd (none-some k e)
    at (x ∷ xs) zero e = ap (λ y. with_held (path_at n y) (settings_at n y) (listed n xs)) (same_Some _ _ e)
    at (x ∷ xs) (suc j) e = at xs j e

pub past_the_end : (n : Nodes Entry) (ks : List NodeKey) (i : ℕ) → slice_get ks i ≡ None → listed n (drop i ks) ≡ []
past_the_end n [] zero h = refl
past_the_end n [] (suc i) h = refl
past_the_end n (x ∷ ks) zero h = absurd (none-some x (sym h))
past_the_end n (x ∷ ks) (suc i) h = past_the_end n ks i h

-- ---- where the settings of a node's group stand

pub settings_there : (n : Nodes Entry) (k : NodeKey) (e : Entry) → get n.values (path_at n k) ≡ Some e → settings_at n k ≡ e.settings
settings_there n k e h = ap (λ w. option_flatten (option_map settings_of w)) h
