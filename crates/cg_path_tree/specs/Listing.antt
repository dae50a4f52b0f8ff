-- Keys with the texts of their nodes' paths, and how they are put in order.
use Rattle.std.specs.Prelude.{◌≡◌, ℕ, List, map, Some}
use denote.Ref.{Bor}
use Rattle.std.specs.List.{AllByRecursion}
use Rattle.std.specs.List.Sorted.{IsPermutation, IsSortedByKey}
use Rattle.std.specs.Ordering.{nat_cmp}
use Rattle.std.specs.Cmp.Lexicographic.{slice_cmp}
use Rattle.cg_maps.specs.FiniteMap.{FiniteMap, get}
use Rattle.cg_name.specs.Path.{path_cmp}
use Rattle.cg_name.specs.Packed.{names_in, IsPacked}
use Rattle.cg_path_tree.specs.declared.node.NodeKey.{NodeKey}

-- each text with its key
abbrev pub texts_of : List (Bor (List ℕ) × NodeKey) → List (List ℕ × NodeKey)
texts_of es = map (λ e. (e.0.now, e.1)) es

-- the keys without their texts
abbrev pub keys_in : List (List ℕ × NodeKey) → List NodeKey
keys_in es = map (λ e. e.1) es

-- the text is that of the path of the key's node
pub record IsText (keys : FiniteMap path_cmp NodeKey) (e : List ℕ × NodeKey) : Type 0 where
  pub packed : IsPacked e.0
  pub found : get keys (names_in e.0) ≡ Some e.1

abbrev pub AreTexts : FiniteMap path_cmp NodeKey → List (List ℕ × NodeKey) → Type 0
AreTexts keys es = AllByRecursion (IsText keys) es

-- the keys of these entries, by ascending texts
pub record AreInOrder (es : List (List ℕ × NodeKey)) (ks : List NodeKey) : Type 0 where
  pub entries : List (List ℕ × NodeKey)
  pub same : IsPermutation es entries
  pub ascend : IsSortedByKey (λ (e : List ℕ × NodeKey). e.0) (slice_cmp nat_cmp) entries
  pub keys : ks ≡ keys_in entries
