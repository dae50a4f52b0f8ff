-- How many processes are at a path and below it, as one comes or goes, and as nodes do.
use Rattle.std.proofs.Common.{◌≡◌, ◌<◌, ◌^◌, ℕ, true, false, Option, Some, None, option_map, is_some, nat_lt, inl, inr, refl, sym, ap, subst, ◌∙◌, arith}
use Rattle.std.specs.Ordering.{nat_cmp}
use Rattle.std.specs.Cmp.{nat_cmp_total}
use Rattle.std.specs.FinMap.{nat_cmp-IsAntisymmetric}
use Rattle.std.proofs.lemmas.Bool.{false≢true}
use Rattle.std.proofs.lemmas.Option.{none-some, same_Some}
use Rattle.cg_maps.specs.FiniteMap.{FiniteMap, empty, get, is_nonempty, keys, len, retain, set_at}
use Rattle.cg_maps.proofs.Maps.{cases, get-empty, get_apart, get_here, set_same, set_set}
use Rattle.cg_model.specs.Derived.{is_in_subtree}
use Rattle.cg_name.specs.Order.{path_cmp_total, path_cmp_exact}
use Rattle.cg_name.specs.Path.{Path, path_cmp, is_prefix}
use Rattle.cg_path_tree.specs.declared.node.NodeKey.{NodeKey}
use Rattle.cg_path_tree.specs.Nodes.{Nodes, path_of, AreClosed, HaveOnePath}
use Rattle.cg_tree.specs.Contents.{counted_at, path_numbered, places_in, process_count, AreAtNodes, AreHeld}
use Rattle.cg_tree.specs.declared.entry.Entry.{Entry}
use Rattle.cg_tree.specs.Entries.{held_in, populated_by_of, CanCount}
use Rattle.cg_tree.specs.CountedUp.{IsOneMoreUp}
use Rattle.cg_tree.proofs.Counts.{keys_by_len, none_passing}
use Rattle.cg_tree.proofs.NodeLists.{positive}
use Rattle.cg_tree.proofs.Numbering.{is_there, own_path, placed_in, put_in}
use Rattle.cg_tree.proofs.Populated.{none_told, same_beside, HaveCounts}
use Rattle.cg_tree.proofs.Seeing.{get-seen, len-seen, seen-set, there-seen}
use Rattle.cg_tree.proofs.Turning.{held_with_it, held_without_it, room_to_come, room_to_go, same_paths}

-- ---- counts of paths that come and go

pub none_held : (places : FiniteMap nat_cmp Path) → AreHeld empty places
none_held places p n h = absurd (none-some n (sym (get-empty path_cmp p) ∙ h))

pub held_without : (held : FiniteMap path_cmp ℕ) (places : FiniteMap nat_cmp Path) (p : Path) → process_count places p ≡ 0 → AreHeld held places → AreHeld (set_at held p None) places
held_without held places p nobody counts q n h = elim (cases path_cmp_total path_cmp_exact q p) [
  | inl e ↦ absurd (none-some n (sym (get_here path_cmp_total path_cmp_exact held p None) ∙ ap (get (set_at held p None)) (sym e) ∙ h))
  | inr ne ↦ counts q n (sym (get_apart path_cmp_total path_cmp_exact held p None q ne) ∙ h) ∙ sym (same_beside held places p nobody None q)
]

pub held_with : (held : FiniteMap path_cmp ℕ) (places : FiniteMap nat_cmp Path) (p : Path) → process_count places p ≡ 0 → AreHeld held places → AreHeld (set_at held p (Some 0)) places
held_with held places p nobody counts q n h = elim (cases path_cmp_total path_cmp_exact q p) [
  | inl e ↦
      let zero : 0 ≡ n = same_Some _ _ (sym (get_here path_cmp_total path_cmp_exact held p (Some 0)) ∙ ap (get (set_at held p (Some 0))) (sym e) ∙ h) in
      sym zero ∙ sym (none_told (set_at held p (Some 0)) places p nobody) ∙ ap (counted_at (set_at held p (Some 0)) places) (sym e)
  | inr ne ↦ counts q n (sym (get_apart path_cmp_total path_cmp_exact held p (Some 0) q ne) ∙ h) ∙ sym (same_beside held places p nobody (Some 0) q)
]

-- where there is no node, no process is there or below
pub nobody_below : (nodes : FiniteMap path_cmp NodeKey) → AreClosed nodes → HaveOnePath nodes → (numbers : FiniteMap nat_cmp ℕ) → AreAtNodes nodes numbers → (p : Path) → get nodes p ≡ None → process_count (places_in nodes numbers) p ≡ 0
nobody_below nodes closed one_path numbers placed p none =
    none_passing nat_cmp_total nat_cmp-IsAntisymmetric (places_in nodes numbers) (λ pid. is_in_subtree p (get (places_in nodes numbers) pid)) (λ pid below.
    place pid ∙ by pid (get numbers pid) refl (sym (ap (is_in_subtree p) (place pid)) ∙ below))
  where
    place : (pid : ℕ) → get (places_in nodes numbers) pid ≡ option_map (path_numbered nodes) (get numbers pid)
    place pid = get-seen (path_numbered nodes) numbers pid

    by : (pid : ℕ) (w : Option ℕ) → get numbers pid ≡ w → is_in_subtree p (option_map (path_numbered nodes) w) ≡ true → option_map (path_numbered nodes) w ≡ None
    by pid None e below = refl
    by pid (Some n) e below =
        let there = own_path nodes one_path n (placed pid n e) in
        absurd (false≢true (sym (ap is_some none) ∙ closed p (path_numbered nodes n) below (ap is_some there)))

-- and where one is, there is a count
pub have_counts : (n : Nodes Entry) → AreClosed n.keys → HaveOnePath n.keys → ((p : Path) → is_some (get n.values p) ≡ is_some (get n.keys p)) → (numbers : FiniteMap nat_cmp ℕ) → AreAtNodes n.keys numbers → HaveCounts (held_in n.values) (places_in n.keys numbers)
have_counts n closed one_path both numbers placed q some = there-seen populated_by_of n.values q ∙ both q ∙ by (get n.keys q) refl
  where
    by : (w : Option NodeKey) → get n.keys q ≡ w → is_some (get n.keys q) ≡ true
    by None none = absurd (let nobody = nobody_below n.keys closed one_path numbers placed q none in omega (arith, some, nobody))
    by (Some k) is = ap is_some is

-- ---- a process is moved: it goes where it was, and comes somewhere else

module _ (n : Nodes Entry) (closed : AreClosed n.keys) (one_path : HaveOnePath n.keys) (both : (p : Path) → is_some (get n.values p) ≡ is_some (get n.keys p)) (numbers : FiniteMap nat_cmp ℕ) (placed : AreAtNodes n.keys numbers)
    (pid k : ℕ) (from : NodeKey) (same : from.0 ≡ k) (is : Some k ≡ get numbers pid) (counts : AreHeld (held_in n.values) (places_in n.keys numbers)) where
  abbrev others : FiniteMap nat_cmp Path
  others = set_at (places_in n.keys numbers) pid None

  gone : get others pid ≡ None
  gone = get_here nat_cmp_total nat_cmp-IsAntisymmetric (places_in n.keys numbers) pid None

  whole : set_at others pid (Some (path_of n.keys from)) ≡ places_in n.keys numbers
  whole =
      set_set nat_cmp_total nat_cmp-IsAntisymmetric (places_in n.keys numbers) pid None (Some (path_of n.keys from))
      ∙ ap (set_at (places_in n.keys numbers) pid) (sym (is_there n.keys numbers pid k from same is))
      ∙ set_same nat_cmp_total nat_cmp-IsAntisymmetric (places_in n.keys numbers) pid

  there_before : HaveCounts (held_in n.values) (set_at others pid (Some (path_of n.keys from)))
  there_before = subst (HaveCounts (held_in n.values)) (sym whole) (have_counts n closed one_path both numbers placed)

  counts_before : AreHeld (held_in n.values) (set_at others pid (Some (path_of n.keys from)))
  counts_before = subst (AreHeld (held_in n.values)) (sym whole) counts

  pub room_where_it_was : (q : Path) (m : ℕ) → is_prefix q (path_of n.keys from) ≡ true → get (held_in n.values) q ≡ Some m → CanCount false m
  room_where_it_was = room_to_go others pid (path_of n.keys from) gone (held_in n.values) there_before counts_before

  module _ (off : FiniteMap path_cmp ℕ) (less : IsOneMoreUp (path_of n.keys from) off (held_in n.values)) where
    without : AreHeld off others
    without =
        held_without_it others pid (path_of n.keys from) gone off (held_in n.values) less (λ q some. same_paths (path_of n.keys from) off (held_in n.values) less q ∙ there_before q some) counts_before

    module _ (p : Path) (key : NodeKey) (own : get n.keys p ≡ Some key) (new : FiniteMap nat_cmp ℕ) (put : new ≡ set_at numbers pid (Some key.0)) where
      comes_there : places_in n.keys new ≡ set_at others pid (Some p)
      comes_there =
          put_in n.keys one_path numbers placed p key own new pid put
          ∙ sym (set_set nat_cmp_total nat_cmp-IsAntisymmetric (places_in n.keys numbers) pid None (Some p))

      pub room_where_it_comes : (most : ℕ) → most ≡ len new → most < 2 ^ 32 → (q : Path) (m : ℕ) → is_prefix q p ≡ true → get off q ≡ Some m → CanCount true m
      room_where_it_comes most many fits =
          room_to_come others pid p gone off without most (ap len (sym comes_there) ∙ len-seen (path_numbered n.keys) new ∙ sym many) fits

      there_behind : HaveCounts off (set_at others pid (Some p))
      there_behind q some =
          same_paths (path_of n.keys from) off (held_in n.values) less q
          ∙ subst (HaveCounts (held_in n.values)) comes_there (have_counts n closed one_path both new (placed_in n.keys one_path numbers placed p key own new pid put)) q some

      pub held_where_it_comes : (on : FiniteMap path_cmp ℕ) → IsOneMoreUp p off on → AreHeld on (places_in n.keys new)
      held_where_it_comes on more = subst (AreHeld on) (sym comes_there) (held_with_it others pid p gone off on more there_behind without)

-- ---- some process is there or below

pub some_below : (places : FiniteMap nat_cmp Path) (p : Path) → nat_lt 0 (process_count places p) ≡ is_nonempty (keys (retain places (λ pid. is_in_subtree p (get places pid))))
some_below places p = positive (process_count places p) ∙ sym (keys_by_len (retain places (λ pid. is_in_subtree p (get places pid))))

-- ---- counts of processes, as entries are written

pub held_written : (m : FiniteMap path_cmp Entry) (p : Path) (w : Option Entry) → held_in (set_at m p w) ≡ set_at (held_in m) p (option_map populated_by_of w)
held_written m p w = seen-set populated_by_of path_cmp_total path_cmp_exact m p w

pub held_there : (m : FiniteMap path_cmp Entry) (p : Path) (e : Entry) → get m p ≡ Some e → get (held_in m) p ≡ Some e.populated_by
held_there m p e h = get-seen populated_by_of m p ∙ ap (option_map populated_by_of) h
