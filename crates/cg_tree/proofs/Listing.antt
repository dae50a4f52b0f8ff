-- Trees to which groups and places are added.
use Rattle.std.proofs.Common.{◌≡◌, ◌≢◌, ℕ, List, [], ◌∷◌, Option, None, Some, IsSome, is_some, ap, sym, subst, ◌∙◌}
use Rattle.std.specs.Ordering.{nat_cmp}
use Rattle.std.specs.BTreeMap.{BTreeMap, IsOrdered}
use Rattle.std.specs.Cmp.{nat_cmp_total}
use Rattle.std.specs.FinMap.{nat_cmp-IsAntisymmetric}
use Rattle.std.specs.List.{AllByRecursion}
use Rattle.cg_maps.specs.FiniteMap.{FiniteMap, domain, empty, entries, from_entries, get, set_at}
use Rattle.cg_maps.specs.Laws.{EachKeyOnce}
use Rattle.cg_maps.proofs.Maps.{each_entry, get-empty, get_apart, keys_differ}
use Rattle.cg_maps.proofs.TreeMaps.{entries-view}
use Rattle.cg_name.specs.Order.{path_cmp_total, path_cmp_exact}
use Rattle.cg_name.specs.Path.{Path, path_cmp}
use Rattle.cg_text.specs.declared.settings.Settings.{Settings}
use Rattle.cg_model.specs.Sound.{Sound}
use Rattle.cg_model.specs.Tree.{Tree, place_of}
use Rattle.cg_tree.specs.declared.tree.Tree.TheInside.{Inside}
use Rattle.cg_tree.specs.Inside.{room_of}
use Rattle.cg_tree.specs.Present.{present}
use Rattle.cg_tree.specs.Room.{TreeWithRoom}
use Rattle.cg_tree.proofs.Presence.{is_some-domain}

-- the entries are in the map
abbrev pub AreIn : BTreeMap ℕ Path → List (ℕ × Path) → Type 0
AreIn m es = AllByRecursion (λ e. get (from_entries nat_cmp m.entries) e.0 ≡ Some e.1) es

pub all_in : (m : BTreeMap ℕ Path) → IsOrdered nat_cmp m → AreIn m m.entries
all_in m ordered = subst (AreIn m) (entries-view nat_cmp_total nat_cmp-IsAntisymmetric m ordered) (each_entry nat_cmp_total (from_entries nat_cmp m.entries))

pub once_in : (m : BTreeMap ℕ Path) → IsOrdered nat_cmp m → EachKeyOnce m.entries
once_in m ordered = subst EachKeyOnce (entries-view nat_cmp_total nat_cmp-IsAntisymmetric m ordered) (keys_differ nat_cmp_total (from_entries nat_cmp m.entries))

-- none of the entries is in a map, nor in it with one of them that is no other
pub all_new : (m : FiniteMap nat_cmp Path) → m ≡ empty → (es : List (ℕ × Path)) → AllByRecursion (λ e. get m e.0 ≡ None) es
all_new m none [] = tt
all_new m none (e ∷ es) = (ap (λ n. get n e.0) none ∙ get-empty nat_cmp e.0, all_new m none es)

pub still_new : (m n : FiniteMap nat_cmp Path) (k : ℕ) (p : Path) → n ≡ set_at m k (Some p) → (es : List (ℕ × Path)) → AllByRecursion (λ e. k ≢ e.0) es → AllByRecursion (λ e. get m e.0 ≡ None) es → AllByRecursion (λ e. get n e.0 ≡ None) es
still_new m n k p is [] others h = tt
still_new m n k p is (e ∷ es) others h = (ap (λ l. get l e.0) is ∙ get_apart nat_cmp_total nat_cmp-IsAntisymmetric m k (Some p) e.0 (λ same. others.0 (sym same)) ∙ h.0, still_new m n k p is es others.1 h.1)

-- a tree from whose groups the map is made, with an entry for each of them
pub world_room : (t : Inside) (T : Tree) {m : FiniteMap path_cmp Settings} {n : FiniteMap nat_cmp Path} → record (room_of t).tree { groups = m; places = n } ≡ T → present t.groups.groups ≡ m → domain t.groups.groups ≡ domain m → t.groups.places ≡ n → room_of t ≡ record { tree = T; entries = domain T.groups }
world_room t T is groups entries places =
    (λ i. record { tree = record (room_of t).tree { groups = groups i; places = places i }; entries = entries i })
    ∙ ap (λ (U : Tree). let r : TreeWithRoom = record { tree = U; entries = domain U.groups } in r) is

-- each process of a sound tree is at the path of a group
pub places_have_entries : (T U : Tree) → U ≡ T → Sound T → (g : FiniteMap path_cmp (Option Settings)) → domain g ≡ domain U.groups → (k : ℕ) (p : Path) → place_of U k ≡ Some p → IsSome (get g p)
places_have_entries T U is sound g same k p at =
    sym (is_some-domain path_cmp_total path_cmp_exact g p)
    ∙ ap (λ m. is_some (get m p)) same
    ∙ is_some-domain path_cmp_total path_cmp_exact U.groups p
    ∙ ap is_some ((subst Sound (sym is) sound).process k p at).1
