-- The children that ask for CPUs.
use Rattle.std.proofs.Common.{◌≡◌, ℕ, zero, suc, Bool, true, false, ◌&&◌, cond, List, [], ◌∷◌, filter, Option, Some, option_map, slice_get, drop, ◌+◌, add-one, refl, sym, ap, ◌∙◌, arith}
use Rattle.std.specs.Option.{option_flatten}
use Rattle.std.specs.List.{AllByRecursion}
use Rattle.std.proofs.lemmas.Bool.{false≢true}
use Rattle.std.proofs.lemmas.Option.{none-some, same_Some, get_or_from_slice_get, slice_get_read, slice_get_within}
use Rattle.cg_maps.specs.FiniteMap.{entries, get, retain}
use Rattle.cg_maps.proofs.Maps.{each_entry}
use Rattle.cg_name.specs.Order.{path_cmp_total, path_cmp_exact}
use Rattle.cg_name.specs.Path.{Path}
use Rattle.cg_path_tree.specs.declared.node.NodeKey.{NodeKey}
use Rattle.cg_path_tree.specs.Nodes.{Nodes, ArePassing}
use Rattle.cg_text.specs.declared.settings.Settings.{Settings}
use Rattle.cg_tree.specs.declared.entry.Entry.{Entry}
use Rattle.cg_tree.specs.Entries.{groups_in, settings_of}
use Rattle.cg_tree.specs.Listing.{asks, asks_at, asks_for_cpus, AreKeys}
use Rattle.cg_tree.specs.Present.{present}
use Rattle.cg_tree.proofs.Climbing.{at_path}
use Rattle.cg_tree.proofs.NodeLists.{kept_here}
use Rattle.cg_tree.proofs.Presence.{get-present}
use Rattle.cg_tree.proofs.Seeing.{get-seen}
use Rattle.cg_tree.proofs.Unordered.{AreWhere}

-- ---- what passes a test, by its place

abbrev pub StandOnce : List NodeKey → Type 0
StandOnce ks = (i j : ℕ) (k : NodeKey) → slice_get ks i ≡ Some k → slice_get ks j ≡ Some k → i ≡ j

module _ {A : Type 0} (t : A → Bool) where
  -- what passes stands in the list
  pub from_filter : (xs : List A) (i : ℕ) (x : A) → slice_get (filter t xs) i ≡ Some x → (j : ℕ) × (slice_get xs j ≡ Some x) × (t x ≡ true)
  from_filter [] i x h = absurd (none-some x h)
  from_filter (y ∷ ys) i x h = at (t y) refl i h (λ j. from_filter ys j x)
    where
      Rest : Type 0
      Rest = (j : ℕ) → slice_get (filter t ys) j ≡ Some x → (l : ℕ) × (slice_get ys l ≡ Some x) × (t x ≡ true)

      at : (b : Bool) → t y ≡ b → (i : ℕ) → slice_get (cond b (y ∷ filter t ys) (filter t ys)) i ≡ Some x → Rest → (j : ℕ) × (slice_get (y ∷ ys) j ≡ Some x) × (t x ≡ true)
      at true e zero h rest = (0, h, ap t (sym (same_Some y x h)) ∙ e)
      at true e (suc i) h rest = let r = rest i h in (suc r.0, r.1, r.2)
      at false e i h rest = let r = rest i h in (suc r.0, r.1, r.2)

  -- what stands in the list and passes is among what passes
  pub in_filter : (xs : List A) (j : ℕ) (x : A) → slice_get xs j ≡ Some x → t x ≡ true → (i : ℕ) × (slice_get (filter t xs) i ≡ Some x)
  in_filter [] j x h e = absurd (none-some x h)
  in_filter (y ∷ ys) zero x h e = (0, ap (λ b. slice_get (cond b (y ∷ filter t ys) (filter t ys)) 0) (ap t (same_Some y x h) ∙ e) ∙ h)
  in_filter (y ∷ ys) (suc j) x h e = at (t y) (in_filter ys j x h e)
    where
      at : (b : Bool) → (i : ℕ) × (slice_get (filter t ys) i ≡ Some x) → (i : ℕ) × (slice_get (cond b (y ∷ filter t ys) (filter t ys)) i ≡ Some x)
      at true r = (suc r.0, r.1)
      at false r = r

pub once_filtered : (t : NodeKey → Bool) (ks : List NodeKey) → StandOnce ks → StandOnce (filter t ks)
once_filtered t [] once = once
once_filtered t (x ∷ xs) once = at (t x) (once_filtered t xs (λ i j k a b. let e : suc i ≡ suc j = once (suc i) (suc j) k a b in omega (arith, e)))
  where
    here : (j : ℕ) (k : NodeKey) → Some x ≡ Some k → slice_get (filter t xs) j ≡ Some k → 0 ≡ suc j
    here j k a b = let r = from_filter t xs j k b in let e : 0 ≡ suc r.0 = once 0 (suc r.0) k a r.1 in absurd (omega (arith, e))

    at : (b : Bool) → StandOnce (filter t xs) → StandOnce (cond b (x ∷ filter t xs) (filter t xs))
    at true rest zero zero k a b = refl
    at true rest zero (suc j) k a b = here j k a b
    at true rest (suc i) zero k a b = sym (here i k b a)
    at true rest (suc i) (suc j) k a b = ap suc (rest i j k a b)
    at false rest i j k a b = rest i j k a b

-- a list from one place on
pub drop_at : {A : Type 0} (xs : List A) (i : ℕ) (x : A) → slice_get xs i ≡ Some x → drop i xs ≡ x ∷ drop (i + 1) xs
drop_at {A} xs i x h = at xs i h ∙ ap (λ j. x ∷ drop j xs) (sym (add-one i))
  where
    at : (ys : List A) (j : ℕ) → slice_get ys j ≡ Some x → drop j ys ≡ x ∷ drop (suc j) ys
    at [] j e = absurd (none-some x e)
    at (y ∷ ys) zero e = ap (λ z. z ∷ ys) (same_Some _ _ e)
    at (y ∷ ys) (suc j) e = at ys j e

-- ---- lists by two tests

pub both_pass : {A : Type 0} (P : A → Type 0) (a b c : A → Bool) → ((x : A) → P x → b x ≡ c x) → (xs : List A) → AllByRecursion P xs → filter (λ x. a x && b x) xs ≡ filter c (filter a xs)
both_pass P a b c same [] h = refl
both_pass {A} P a b c same (x ∷ xs) h = by (a x) (b x) (same x h.0) (both_pass P a b c same xs h.1)
  where
    by : (u v : Bool) → v ≡ c x → filter (λ y. a y && b y) xs ≡ filter c (filter a xs) → cond (u && v) (x ∷ filter (λ y. a y && b y) xs) (filter (λ y. a y && b y) xs) ≡ filter c (cond u (x ∷ filter a xs) (filter a xs))
    by true true e rest = ap (λ ys. x ∷ ys) rest ∙ ap (λ w. cond w (x ∷ filter c (filter a xs)) (filter c (filter a xs))) e
    by true false e rest = rest ∙ ap (λ w. cond w (x ∷ filter c (filter a xs)) (filter c (filter a xs))) e
    by false v e rest = rest

-- ---- groups among nodes

module _ (n : Nodes Entry) (test : Path → Bool) (ks : List NodeKey) (w : AreWhere n test ks) where
  abbrev held : Path → Option Settings
  held q = option_flatten (option_map settings_of (get n.values q))

  abbrev pub passes : Path → Bool
  passes q = test q && asks (held q)

  at_node : (q : Path) (k : NodeKey) → get n.keys q ≡ Some k → asks_at n k ≡ asks (held q)
  at_node q k is = ap (λ p. asks (held p)) (at_path n k q w.one_path is)

  pub keys_asking : AreKeys n (filter (asks_at n) ks)
  keys_asking i k at = let r = from_filter (asks_at n) ks i k at in let f = w.each r.0 k r.1 in (f.0, f.1)

  first_of : (a b : Bool) → (a && b) ≡ true → a ≡ true
  first_of true b e = refl
  first_of false b e = e

  second_of : (a b : Bool) → (a && b) ≡ true → b ≡ true
  second_of true b e = e
  second_of false b e = absurd (false≢true e)

  both_true : (a b : Bool) → a ≡ true → b ≡ true → (a && b) ≡ true
  both_true a b e f = ap (λ x. x && b) e ∙ f

  pub asking_pass : ArePassing n.keys passes (filter (asks_at n) ks)
  asking_pass q k is = (
    λ e.
        let at = w.all q k (first_of (test q) (asks (held q)) e) is in
        let i = in_filter (asks_at n) ks at.0 k at.1 (at_node q k is ∙ second_of (test q) (asks (held q)) e) in
        (i.0, slice_get_within (filter (asks_at n) ks) i.0 k i.1, get_or_from_slice_get (filter (asks_at n) ks) i.0 k k i.1),
    λ has.
        let r = from_filter (asks_at n) ks has.0 k (slice_get_read (filter (asks_at n) ks) _ has.0 k refl has.1 (sym has.2)) in
        let f = w.each r.0 k r.1 in
        both_true (test q) (asks (held q)) (ap test (w.one_path q f.0 k is f.1) ∙ f.2) (sym (at_node q k is) ∙ r.2),
  )

  asks_alike : (e : Path × Settings) → get (present (groups_in n.values)) e.0 ≡ Some e.1 → asks (held e.0) ≡ asks_for_cpus e
  asks_alike e is = ap asks (sym (ap option_flatten (get-seen settings_of n.values e.0)) ∙ sym (get-present path_cmp_total path_cmp_exact (groups_in n.values) e.0) ∙ is)

  pub asking_entries : entries (retain (present (groups_in n.values)) passes) ≡ filter asks_for_cpus (entries (retain (present (groups_in n.values)) test))
  asking_entries =
      sym (kept_here (present (groups_in n.values)) passes)
      ∙ both_pass (λ e. get (present (groups_in n.values)) e.0 ≡ Some e.1) (λ e. test e.0) (λ e. asks (held e.0)) asks_for_cpus asks_alike (entries (present (groups_in n.values))) (each_entry path_cmp_total (present (groups_in n.values)))
      ∙ ap (filter asks_for_cpus) (kept_here (present (groups_in n.values)) test)
