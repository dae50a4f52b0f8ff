-- The counts, as settings are put at a node, and as dead entries come and go.
use Rattle.std.proofs.Common.{◌≡◌, ℕ, ◌+◌, ◌<◌, ◌≤◌, ◌^◌, ◌&&◌, not, Bool, true, false, cond, Option, Some, None, option_map, is_some, inl, inr, refl, sym, ap, subst, ◌∙◌, true≢false, arith, [], ◌∷◌}
use mathlib.Core.Bool.{beq}
use Rattle.std.specs.Option.{option_flatten}
use Rattle.std.proofs.lemmas.Bool.{and_parts, false≢true}
use Rattle.std.proofs.lemmas.Option.{none-some, same_Some}
use Rattle.cg_maps.specs.FiniteMap.{FiniteMap, domain, empty, get, len, retain, set_at}
use Rattle.cg_maps.proofs.Maps.{cases, get_here, get_apart, get-empty, same_map}
use Rattle.cg_name.specs.declared.controller.Controller.{Controller}
use Rattle.cg_name.specs.Name.{same_name}
use Rattle.cg_name.specs.Order.{path_cmp_total, path_cmp_exact}
use Rattle.cg_name.specs.Path.{Path, path_cmp, is_above, is_parent, is_prefix}
use Rattle.cg_path_tree.specs.declared.node.NodeKey.{NodeKey}
use Rattle.cg_path_tree.specs.Nodes.{Nodes, with_value, AreClosed}
use Rattle.cg_text.specs.Controllers.{has}
use Rattle.cg_text.specs.declared.settings.Settings.{Settings}
use Rattle.cg_tree.specs.declared.entry.Entry.{Entry}
use Rattle.cg_tree.specs.declared.passing.Passing.{Passing}
use Rattle.cg_tree.specs.Entries.{counted, entry_at, group_count, groups_in, path_at, with_below, settings_of, with_right_below, AreCounted, AreCountedBelow, CanCount, IsCounted, IsCountedBelow}
use Rattle.cg_tree.specs.Passing.{control_of, passing_count, tally, times}
use Rattle.cg_tree.specs.Present.{present}
use Rattle.cg_tree.proofs.Climbing.{not_above_itself, parent_is_above}
use Rattle.cg_tree.proofs.Counts.{few_passing, len-domain, none_held, passing-written, recounts, room_to_count, times-tally}
use Rattle.cg_tree.proofs.Presence.{domain-replaced, present_kept, is_some-domain}
use Rattle.cg_tree.proofs.Seeing.{get-seen, len-seen, seen-set, there}

-- ---- as many values as keys

same_there : (w x : Option (Unit {0})) → is_some w ≡ is_some x → w ≡ x
same_there None None e = refl
same_there None (Some x) e = absurd (false≢true e)
same_there (Some w) None e = absurd (true≢false e)
same_there (Some w) (Some x) e = refl

pub same_keys : (n : Nodes Entry) → ((p : Path) → is_some (get n.values p) ≡ is_some (get n.keys p)) → domain n.values ≡ domain n.keys
same_keys n both = same_map path_cmp_total path_cmp_exact _ _ (λ p.
    same_there (get (domain n.values) p) (get (domain n.keys) p) (is_some-domain path_cmp_total path_cmp_exact n.values p ∙ both p ∙ sym (is_some-domain path_cmp_total path_cmp_exact n.keys p)))

pub as_many : (n : Nodes Entry) → ((p : Path) → is_some (get n.values p) ≡ is_some (get n.keys p)) → len n.values ≡ len n.keys
as_many n both = sym (len-domain n.values) ∙ ap len (same_keys n both) ∙ len-domain n.keys

-- what has no entry has no node, and what has one has one
module _ (n : Nodes Entry) (both : (p : Path) → is_some (get n.values p) ≡ is_some (get n.keys p)) (g : FiniteMap path_cmp (Option Settings)) (is : groups_in n.values ≡ g) where
  pub node_there : (p : Path) → is_some (get n.keys p) ≡ is_some (get g p)
  node_there p = sym (both p) ∙ there settings_of n.values g is p

  pub no_node : (p : Path) → get g p ≡ None → get n.keys p ≡ None
  no_node p h = by (get n.keys p) (node_there p ∙ ap is_some h)
    where
      by : (w : Option NodeKey) → is_some w ≡ false → w ≡ None
      by None e = refl
      by (Some k) e = absurd (true≢false e)

  pub no_entry : (p : Path) → None ≡ get n.keys p → get g p ≡ None
  no_entry p own = by (get g p) (sym (node_there p) ∙ ap is_some (sym own))
    where
      by : (w : Option (Option Settings)) → is_some w ≡ false → w ≡ None
      by None e = refl
      by (Some x) e = absurd (true≢false e)

-- two tests that were compared
pub differ : (a b : Bool) → not (beq a b) ≡ true → b ≡ not a
differ true true h = absurd (false≢true h)
differ true false h = refl
differ false true h = refl
differ false false h = absurd (false≢true h)

pub agree : (a b : Bool) → not (beq a b) ≡ false → a ≡ b
agree true true h = refl
agree true false h = absurd (true≢false h)
agree false true h = absurd (true≢false h)
agree false false h = refl

-- ---- an entry that is written

pub none_to_count : AreCounted empty
none_to_count p e h = absurd (none-some e (sym (get-empty path_cmp p) ∙ h))

some_of : {A : Type 0} (w : Option A) → is_some w ≡ true → (x : A) × (w ≡ Some x)
some_of None e = absurd (false≢true e)
some_of (Some x) e = (x, refl)

pub from_mapped : {A B : Type 0} (f : A → B) (w : Option A) (y : B) → option_map f w ≡ Some y → (x : A) × (w ≡ Some x) × (f x ≡ y)
from_mapped f None y e = absurd (none-some y e)
from_mapped f (Some x) y e = (x, refl, same_Some _ _ e)

pub groups_written : (m : FiniteMap path_cmp Entry) (p : Path) (w : Option Entry) → groups_in (set_at m p w) ≡ set_at (groups_in m) p (option_map settings_of w)
groups_written m p w = seen-set settings_of path_cmp_total path_cmp_exact m p w

pub held_at : (m : FiniteMap path_cmp Entry) (p : Path) (e : Entry) → get m p ≡ Some e → option_flatten (get (groups_in m) p) ≡ e.settings
held_at m p e h = ap option_flatten (get-seen settings_of m p ∙ ap (option_map settings_of) h)

-- the entry of a node is found
pub entry_found : (n : Nodes Entry) (key : NodeKey) → get n.keys (path_at n key) ≡ Some key → ((p : Path) → is_some (get n.values p) ≡ is_some (get n.keys p)) → (e : Entry) × (entry_at n key ≡ Some e)
entry_found n key h both = some_of (entry_at n key) (both (path_at n key) ∙ ap is_some h)

module _ (a : Nodes Entry) (key : NodeKey) (e : Entry) (there : entry_at a key ≡ Some e) (s : Option Settings) (counts : AreCountedBelow a.values) where
  abbrev p : Path
  p = path_at a key

  abbrev pub written : Nodes Entry
  written = with_value a p (record e { settings = s })

  pub written_groups : groups_in written.values ≡ set_at (groups_in a.values) p (Some s)
  written_groups = groups_written a.values p (Some (record e { settings = s }))

  -- the counts are still those before
  counts_before : (q : Path) (x : Entry) → get written.values q ≡ Some x → IsCountedBelow (groups_in a.values) q x
  counts_before q x h = elim (cases path_cmp_total path_cmp_exact q p) [
    | inl same ↦
        let own : record e { settings = s } ≡ x = same_Some _ _ (sym (get_here path_cmp_total path_cmp_exact a.values p (Some (record e { settings = s }))) ∙ ap (get written.values) (sym same) ∙ h) in
        let old : IsCountedBelow (groups_in a.values) p e = counts p e there in
        subst (λ (y : Entry). IsCountedBelow (groups_in a.values) q y) own
        (subst (λ y. IsCountedBelow (groups_in a.values) y (record e { settings = s })) (sym same) (record { below = old.below; right_below = old.right_below }))
    | inr ne ↦ counts q x (sym (get_apart path_cmp_total path_cmp_exact a.values p (Some (record e { settings = s })) q ne) ∙ h)
  ]

  -- how a count of groups changes
  changed : (t : Path → Bool) → group_count (groups_in written.values) t + cond (t p && is_some e.settings) 1 0 ≡ group_count (groups_in a.values) t + cond (t p && is_some s) 1 0
  changed t =
      ap (λ m. group_count m t + cond (t p && is_some e.settings) 1 0) written_groups
      ∙ ap (λ w. group_count (set_at (groups_in a.values) p (Some s)) t + cond (t p && is_some w) 1 0) (sym (held_at a.values p e there))
      ∙ passing-written (groups_in a.values) t p (Some s)

  -- no group comes or goes
  pub counted_alike : is_some s ≡ is_some e.settings → AreCountedBelow written.values
  counted_alike alike q x h =
      let old = counts_before q x h in
      record { below = old.below ∙ same (is_above q); right_below = old.right_below ∙ same (is_parent q) }
    where
      even : (n k : ℕ) (t b c : Bool) → c ≡ b → k + cond (t && b) 1 0 ≡ n + cond (t && c) 1 0 → n ≡ k
      even n k true true true f h = omega arith
      even n k true true false f h = absurd (false≢true f)
      even n k true false true f h = absurd (true≢false f)
      even n k true false false f h = omega arith
      even n k false b c f h = omega arith

      same : (t : Path → Bool) → group_count (groups_in a.values) t ≡ group_count (groups_in written.values) t
      same t = even _ _ (t p) (is_some e.settings) (is_some s) alike (changed t)

  -- one comes or goes
  module _ (comes : Bool) (new : is_some s ≡ comes) (old : is_some e.settings ≡ not comes) where
    room : (most : ℕ) → len a.values ≡ most → most < 2 ^ 32 → (t : Path → Bool) → t p ≡ true → (n : ℕ) → n ≡ group_count (groups_in a.values) t → CanCount comes n
    room most length fits t passes n is =
        let count : group_count (groups_in written.values) t + cond (is_some e.settings) 1 0 ≡ n + cond (is_some s) 1 0 =
        ap (λ b. group_count (groups_in written.values) t + cond (b && is_some e.settings) 1 0) (sym passes)
        ∙ changed t
        ∙ (λ i. sym is i + cond (passes i && is_some s) 1 0) in
        let few : group_count (groups_in written.values) t ≤ most =
        subst (λ k. group_count (groups_in written.values) t ≤ k) (len-seen settings_of written.values ∙ len-replaced ∙ length) (few_passing (groups_in written.values) t) in
        room_to_count comes (is_some e.settings) (is_some s) n (group_count (groups_in written.values) t) most new old count few fits
      where
        len-replaced : len written.values ≡ len a.values
        len-replaced = sym (len-domain written.values) ∙ ap len (domain-replaced path_cmp_total path_cmp_exact a.values p (record e { settings = s }) (ap is_some there)) ∙ len-domain a.values

    pub room_right_below : (most : ℕ) → len a.values ≡ most → most < 2 ^ 32 → (q : Path) (x : Entry) → is_parent q p ≡ true → get written.values q ≡ Some x → CanCount comes x.right_below
    room_right_below most length fits q x passes h = room most length fits (is_parent q) passes x.right_below (counts_before q x h).right_below

    module _ (b : Nodes Entry) (right : (q : Path) → get b.values q ≡ option_map (with_right_below comes (is_parent q p)) (get written.values q)) where
      pub room_below : (most : ℕ) → len a.values ≡ most → most < 2 ^ 32 → (q : Path) (x : Entry) → is_above q p ≡ true → get b.values q ≡ Some x → CanCount comes x.below
      room_below most length fits q x passes h =
          let before = from_mapped (with_right_below comes (is_parent q p)) (get written.values q) x (sym (right q) ∙ h) in
          room most length fits (is_above q) passes x.below (ap (λ (y : Entry). y.below) (sym before.2) ∙ (counts_before q before.0 before.1).below)

      module _ (c : Nodes Entry) (above : (q : Path) → get c.values q ≡ option_map (with_below comes (is_above q p)) (get b.values q)) where
        settings_kept : (f : Entry → Entry) → ((x : Entry) → (f x).settings ≡ x.settings) → (w : Option Entry) → option_map settings_of (option_map f w) ≡ option_map settings_of w
        settings_kept f h None = refl
        settings_kept f h (Some x) = ap Some (h x)

        pub counted_groups : groups_in c.values ≡ set_at (groups_in a.values) p (Some s)
        counted_groups =
            same_map path_cmp_total path_cmp_exact (groups_in c.values) (groups_in written.values) (λ q.
            get-seen settings_of c.values q
            ∙ ap (option_map settings_of) (above q)
            ∙ settings_kept (with_below comes (is_above q p)) (λ x. refl) (get b.values q)
            ∙ ap (option_map settings_of) (right q)
            ∙ settings_kept (with_right_below comes (is_parent q p)) (λ x. refl) (get written.values q)
            ∙ sym (get-seen settings_of written.values q))
            ∙ written_groups

        recount : (t : Path → Bool) (n : ℕ) → n ≡ group_count (groups_in a.values) t → cond (t p) (counted comes n) n ≡ group_count (groups_in c.values) t
        recount t n is =
            sym (recounts comes (t p) (is_some e.settings) (is_some s) n (group_count (groups_in written.values) t) new old (changed t ∙ ap (λ k. k + cond (t p && is_some s) 1 0) (sym is)))
            ∙ ap (λ m. group_count m t) (written_groups ∙ sym counted_groups)

        pub counted_anew : AreCountedBelow c.values
        counted_anew q x h =
            let last = from_mapped (with_below comes (is_above q p)) (get b.values q) x (sym (above q) ∙ h) in
            let first = from_mapped (with_right_below comes (is_parent q p)) (get written.values q) last.0 (sym (right q) ∙ last.1) in
            let old = counts_before q first.0 first.1 in
            subst (λ (y : Entry). IsCountedBelow (groups_in c.values) q y) (ap (with_below comes (is_above q p)) first.2 ∙ last.2)
            (record { below = recount (is_above q) first.0.below old.below; right_below = recount (is_parent q) first.0.right_below old.right_below })

-- ---- an entry of no group comes or goes

module _ (m : FiniteMap path_cmp Entry) (p : Path) (w : Option Entry) (counts : AreCounted m) (before : option_flatten (get (groups_in m) p) ≡ None) (behind : option_flatten (option_map settings_of w) ≡ None) where
  same_present : present (groups_in (set_at m p w)) ≡ present (groups_in m)
  same_present = ap present (groups_written m p w) ∙ present_kept path_cmp_total path_cmp_exact (groups_in m) p (option_map settings_of w) before behind

  same_counts : (q : Path) (x : Entry) → IsCounted (groups_in m) q x → IsCounted (groups_in (set_at m p w)) q x
  same_counts q x h = record {
    groups = record {
      below = h.groups.below ∙ ap (λ n. len (retain n (is_above q))) (sym same_present);
      right_below = h.groups.right_below ∙ ap (λ n. len (retain n (is_parent q))) (sym same_present);
    };
    passing = λ c. h.passing c ∙ ap (λ n. len (retain n (λ r. is_parent q r && has (control_of (get n r)) c))) (sym same_present);
  }

  pub counted_kept : ((x : Entry) → w ≡ Some x → IsCounted (groups_in m) p x) → AreCounted (set_at m p w)
  counted_kept own q x h = elim (cases path_cmp_total path_cmp_exact q p) [
    | inl same ↦
        let here : w ≡ Some x = sym (get_here path_cmp_total path_cmp_exact m p w) ∙ ap (get (set_at m p w)) (sym same) ∙ h in
        same_counts q x (subst (λ y. IsCounted (groups_in m) y x) (sym same) (own x here))
    | inr ne ↦ same_counts q x (counts q x (sym (get_apart path_cmp_total path_cmp_exact m p w q ne) ∙ h))
  ]

-- ---- nothing is counted below a path with no node

pub above_begins : (p q : Path) → is_above p q ≡ true → is_prefix p q ≡ true
above_begins p [] h = absurd (false≢true h)
above_begins [] (m ∷ q) h = refl
above_begins (n ∷ p) (m ∷ q) h = let both = and_parts (same_name n m) (is_above p q) h in λ i. both.0 i && above_begins p q both.1 i

pub none_above : (a : Nodes Entry) → AreClosed a.keys → ((p : Path) → is_some (get a.values p) ≡ is_some (get a.keys p)) → (p : Path) → is_some (get a.keys p) ≡ false → (q : Path) → is_above p q ≡ true → get (groups_in a.values) q ≡ None
none_above a closed both p none q above = by (get a.values q) refl
  where
    by : (w : Option Entry) → get a.values q ≡ w → get (groups_in a.values) q ≡ None
    by None e = get-seen settings_of a.values q ∙ ap (option_map settings_of) e
    by (Some x) e = absurd (true≢false (sym (closed p q (above_begins p q above) (sym (both q) ∙ ap is_some e)) ∙ none))

-- and no node is right below one that was made there
pub leaf_made : (old new : FiniteMap path_cmp NodeKey) → AreClosed old → (p : Path) (key : NodeKey) → get old p ≡ None → new ≡ set_at old p (Some key) → (q : Path) → is_parent p q ≡ true → get new q ≡ None
leaf_made old new closed p key absent is q h = elim (cases path_cmp_total path_cmp_exact q p) [
  | inl e ↦ absurd (true≢false (sym (parent_is_above p q h) ∙ ap (is_above p) e ∙ not_above_itself p))
  | inr ne ↦ ap (λ m. get m q) is ∙ get_apart path_cmp_total path_cmp_exact old p (Some key) q ne ∙ by (get old q) refl
]
  where
    by : (w : Option NodeKey) → get old q ≡ w → w ≡ None
    by None e = refl
    by (Some k) e = absurd (true≢false (sym (closed p q (above_begins p q (parent_is_above p q h)) (ap is_some e)) ∙ ap is_some absent))

pub none_counted_below : (a : Nodes Entry) → AreClosed a.keys → ((p : Path) → is_some (get a.values p) ≡ is_some (get a.keys p)) → (p : Path) → is_some (get a.keys p) ≡ false → group_count (groups_in a.values) (is_above p) ≡ 0
none_counted_below a closed both p none = none_held (groups_in a.values) (is_above p) (none_above a closed both p none)

pub none_passing_right_below : (a : Nodes Entry) → AreClosed a.keys → ((p : Path) → is_some (get a.values p) ≡ is_some (get a.keys p)) → (p : Path) → is_some (get a.keys p) ≡ false → (c : Controller) → passing_count (groups_in a.values) p c ≡ 0
none_passing_right_below a closed both p none c =
    none_held (groups_in a.values) (λ q. is_parent p q && has (control_of (get (present (groups_in a.values)) q)) c) (λ q h. none_above a closed both p none q (parent_is_above p q (and_parts (is_parent p q) _ h).0))

pub none_counted_right_below : (a : Nodes Entry) → AreClosed a.keys → ((p : Path) → is_some (get a.values p) ≡ is_some (get a.keys p)) → (p : Path) → is_some (get a.keys p) ≡ false → group_count (groups_in a.values) (is_parent p) ≡ 0
none_counted_right_below a closed both p none = none_held (groups_in a.values) (is_parent p) (λ q h. none_above a closed both p none q (parent_is_above p q h))

-- ---- a dead entry that is made

module _ (a : Nodes Entry) (closed : AreClosed a.keys) (both : (p : Path) → is_some (get a.values p) ≡ is_some (get a.keys p)) (p : Path) (absent : get a.keys p ≡ None) (n : Passing) (none : n ≡ tally (λ c. 0)) where
  abbrev dead : Entry
  dead = record { settings = None; below = 0; right_below = 0; passing = n; populated_by = 0 }

  none_passing_there : (c : Controller) → times n c ≡ passing_count (groups_in a.values) p c
  none_passing_there c = ap (λ k. times k c) none ∙ times-tally (λ d. 0) c ∙ sym (none_passing_right_below a closed both p (ap is_some absent) c)

  none_held_there : option_flatten (get (groups_in a.values) p) ≡ None
  none_held_there = by (get a.values p) refl
    where
      by : (w : Option Entry) → get a.values p ≡ w → option_flatten (get (groups_in a.values) p) ≡ None
      by None e = ap option_flatten (get-seen settings_of a.values p ∙ ap (option_map settings_of) e)
      by (Some x) e = absurd (true≢false (sym (ap is_some e) ∙ both p ∙ ap is_some absent))

  pub counted_added : AreCounted a.values → AreCounted (set_at a.values p (Some dead))
  counted_added counts = counted_kept a.values p (Some dead) counts none_held_there refl (λ x e.
      subst (λ (y : Entry). IsCounted (groups_in a.values) p y) (same_Some _ _ e)
      (record {
        groups = record { below = sym (none_counted_below a closed both p (ap is_some absent)); right_below = sym (none_counted_right_below a closed both p (ap is_some absent)) };
        passing = none_passing_there;
      }))

  pub groups_added : groups_in (set_at a.values p (Some dead)) ≡ set_at (groups_in a.values) p (Some None)
  groups_added = groups_written a.values p (Some dead)
