-- Entries in the order of their texts are in the order of their paths.
use Rattle.std.proofs.Common.{◌≡◌, List, [], ◌∷◌, sym, ◌∙◌}
use Rattle.std.specs.Prelude.{ℕ}
use Rattle.std.specs.declared.cmp.Ordering.{Ordering}
use Rattle.std.specs.declared.cmp.Ordering.TheVariants.{Less}
use Rattle.std.specs.Ordering.{nat_cmp}
use Rattle.std.specs.Cmp.Lexicographic.{slice_cmp}
use Rattle.std.specs.List.{AllByRecursion}
use Rattle.std.specs.List.Sorted.{IsStrictlySortedBy}
use Rattle.std.specs.Map.{keys_of}
use Rattle.cg_maps.specs.FiniteMap.{entries}
use Rattle.cg_maps.proofs.TreeMaps.{is_sorted-from, entries-from_sorted}
use Rattle.cg_name.specs.Order.{path_cmp_total, path_cmp_exact}
use Rattle.cg_name.specs.Path.{path_cmp}
use Rattle.cg_name.specs.Packed.{names_in, IsPacked}
use Rattle.cg_name.proofs.PackedOrder.{packed_order}
use Rattle.cg_path_tree.specs.PathEntries.{by_paths, map_by_paths, ArePacked, ArePathEntries}

-- how a text compares to a key
abbrev pub at_text : {K : Type 0} → (K → List ℕ) → List ℕ → K → Ordering
at_text text q k = slice_cmp nat_cmp q (text k)

module _ {K X : Type 0} (text : K → List ℕ) where
  all_above : (k : K) (es : List (K × X)) → IsPacked (text k) → ArePacked text es → AllByRecursion (λ y. at_text text (text k) y ≡ Less) (keys_of es) → AllByRecursion (λ p. path_cmp (names_in (text k)) p ≡ Less) (keys_of (by_paths text es))
  all_above k [] h a b = tt
  all_above k (e ∷ es) h a b = (sym (packed_order (text k) (text e.0) h.start a.0.start) ∙ b.0, all_above k es h a.1 b.1)

  ordered-by_paths : (es : List (K × X)) → ArePacked text es → IsStrictlySortedBy (λ x y. at_text text (text x) y) (keys_of es) → IsStrictlySortedBy path_cmp (keys_of (by_paths text es))
  unfolding IsStrictlySortedBy
  ordered-by_paths [] a h = tt
  ordered-by_paths (e ∷ es) a h = (all_above e.0 es a.0 a.1 h.0, ordered-by_paths es a.1 h.1)

  pub path_entries : (es : List (K × X)) → ArePacked text es → IsStrictlySortedBy (λ x y. at_text text (text x) y) (keys_of es) → ArePathEntries text es
  path_entries es a h = record { packed = a; ordered = ordered-by_paths es a h }

  pub entries-by_paths : (es : List (K × X)) → ArePathEntries text es → entries (map_by_paths text es) ≡ by_paths text es
  entries-by_paths es h = entries-from_sorted path_cmp_total path_cmp_exact (by_paths text es) (is_sorted-from path_cmp (by_paths text es) h.ordered)
