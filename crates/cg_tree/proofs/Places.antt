-- The processes as they are kept, read and written.
use Rattle.std.proofs.Common.{◌≡◌, ℕ, List, [], ◌∷◌, map, Option, Some, None, is_some, refl, sym, ap, ◌∙◌, Ordering}
use Rattle.std.specs.BTreeMap.{BTreeMap, IsOrdered}
use Rattle.std.specs.List.{AllByRecursion}
use Rattle.std.specs.Map.{keys_of}
use Rattle.std.specs.Ordering.{nat_cmp}
use Rattle.std.specs.Cmp.{nat_cmp_total}
use Rattle.std.specs.FinMap.{nat_cmp-IsAntisymmetric}
use Rattle.cg_maps.specs.FiniteMap.{FiniteMap, bare, domain, entries, from_entries, get, keys, set_at}
use Rattle.cg_maps.proofs.Maps.{each_entry, set_same}
use Rattle.cg_maps.proofs.TreeMaps.{entries-view}
use Rattle.cg_name.specs.Path.{Path}
use Rattle.cg_model.specs.Key.{replaced}
use Rattle.cg_tree.specs.declared.tree.Tree.TheInside.{Inside}
use Rattle.cg_tree.specs.Contents.{Contents}
use Rattle.cg_tree.specs.Inside.{room_of}
use Rattle.cg_tree.specs.Placed.{placed, AreThere}
use Rattle.cg_tree.specs.Present.{with_held, present}
use Rattle.cg_tree.proofs.Presence.{domain-replaced}
use Rattle.cg_tree.proofs.Rooting.{with_place}

-- ---- a process that is put into another group

pub place_written : (t : Inside) (g : Contents) (k : ℕ) (p : Path) → g.groups ≡ t.groups.groups → g.places ≡ set_at t.groups.places k (replaced (get t.groups.places k) (Some p)) → room_of (record t { groups = g }) ≡ with_place (room_of t) k p
place_written t g k p groups places = λ i. record { tree = record (room_of t).tree { groups = present (groups i); places = places i }; entries = domain (groups i) }

bare_keys : {K X : Type 0} (es : List (K × X)) → map (λ e. e.0) (bare es) ≡ map (λ e. e.0) es
bare_keys [] = refl
bare_keys (e ∷ es) = ap (λ ks. e.0 ∷ ks) (bare_keys es)

keys-domain : {K X : Type 0} {R : K → K → Ordering} (m : FiniteMap R X) → keys (domain m) ≡ keys m
unfolding keys domain
keys-domain m = bare_keys m.list

-- no PID comes or goes
pub same_pids : (m : FiniteMap nat_cmp Path) (k : ℕ) (p : Path) → keys (set_at m k (replaced (get m k) (Some p))) ≡ keys m
same_pids m k p = by (get m k) refl
  where
    by : (w : Option Path) → get m k ≡ w → keys (set_at m k (replaced (get m k) (Some p))) ≡ keys m
    by None e = ap (λ w. keys (set_at m k (replaced w (Some p)))) e ∙ ap (λ w. keys (set_at m k w)) (sym e) ∙ ap keys (set_same nat_cmp_total nat_cmp-IsAntisymmetric m k)
    by (Some q) e =
        ap (λ w. keys (set_at m k (replaced w (Some p)))) e
        ∙ sym (keys-domain (set_at m k (Some p)))
        ∙ ap keys (domain-replaced nat_cmp_total nat_cmp-IsAntisymmetric m k p (ap is_some e))
        ∙ keys-domain m

-- ---- processes as they are listed

module _ (m : FiniteMap nat_cmp Path) where
  placed_keys : (es : List (ℕ × Path)) → AllByRecursion (λ e. get m e.0 ≡ Some e.1) es → placed m (map (λ e. e.0) es) ≡ es
  placed_keys [] h = refl
  placed_keys (e ∷ es) h = (λ i. with_held e.0 (h.0 i) (placed_keys es h.1 i))

  there_keys : (es : List (ℕ × Path)) → AllByRecursion (λ e. get m e.0 ≡ Some e.1) es → AreThere m (map (λ e. e.0) es)
  there_keys [] h = tt
  there_keys (e ∷ es) h = (ap is_some h.0, there_keys es h.1)

  pub all_placed : placed m (keys m) ≡ entries m
  unfolding keys entries
  all_placed = placed_keys m.list (each_entry nat_cmp_total m)

  pub all_there : AreThere m (keys m)
  unfolding keys entries
  all_there = there_keys m.list (each_entry nat_cmp_total m)

-- the next one
pub next_placed : (m : FiniteMap nat_cmp Path) (k : ℕ) (p : Path) (ks : List ℕ) → Some p ≡ get m k → placed m (k ∷ ks) ≡ (k, p) ∷ placed m ks
next_placed m k p ks h = ap (λ w. with_held k w (placed m ks)) (sym h)

-- ---- the keys of a map of the code, ascending

keys_mapped : (es : List (ℕ × Path)) → keys_of es ≡ map (λ e. e.0) es
keys_mapped [] = refl
keys_mapped (e ∷ es) = ap (λ ks. e.0 ∷ ks) (keys_mapped es)

pub keys_of_map : (m : BTreeMap ℕ Path) → IsOrdered nat_cmp m → keys_of m.entries ≡ keys (from_entries nat_cmp m.entries)
unfolding keys entries
keys_of_map m ordered = ap keys_of (sym (entries-view nat_cmp_total nat_cmp-IsAntisymmetric m ordered)) ∙ keys_mapped (entries (from_entries nat_cmp m.entries))
