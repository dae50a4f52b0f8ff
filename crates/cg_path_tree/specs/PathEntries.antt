-- Entries by the texts of paths, as entries by paths.
use Rattle.std.specs.Prelude.{ℕ, List, [], ◌∷◌}
use Rattle.std.specs.List.Sorted.{IsStrictlySortedBy}
use Rattle.std.specs.Map.{keys_of}
use Rattle.cg_maps.specs.FiniteMap.{FiniteMap, from_entries}
use Rattle.cg_name.specs.Path.{Path, path_cmp}
use Rattle.cg_name.specs.Packed.{names_in, IsPacked}

module _ {K X : Type 0} (text : K → List ℕ) where
  -- the entries, each with the path of its key's text
  abbrev pub by_paths : List (K × X) → List (Path × X)
  by_paths [] = []
  by_paths (e ∷ es) = (names_in (text e.0), e.1) ∷ by_paths es

  -- each key's text is that of a path
  abbrev pub ArePacked : List (K × X) → Type 0
  ArePacked [] = Unit {0}
  ArePacked (e ∷ es) = IsPacked (text e.0) × ArePacked es

  -- entries of a map by paths, in the order of the paths
  pub record ArePathEntries (es : List (K × X)) : Type 0 where
    pub packed : ArePacked es
    pub ordered : IsStrictlySortedBy path_cmp (keys_of (by_paths es))

  -- the map of the entries
  abbrev pub map_by_paths : List (K × X) → FiniteMap path_cmp X
  map_by_paths es = from_entries path_cmp (by_paths es)
