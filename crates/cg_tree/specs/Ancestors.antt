-- What a tree has at a path and at the paths above it, the deepest first.
use Rattle.std.specs.Prelude.{ℕ, zero, suc, List, [], ◌∷◌, length, take}
use Rattle.cg_maps.specs.FiniteMap.{FiniteMap, get}
use Rattle.std.specs.Option.{option_flatten}
use Rattle.std.specs.Prelude.{Option}
use Rattle.cg_model.specs.Derived.{descendants}
use Rattle.cg_model.specs.Tree.{Tree, group}
use Rattle.cg_name.specs.Path.{Path, path_cmp, is_above}
use Rattle.cg_text.specs.declared.settings.Settings.{Settings}
use Rattle.cg_tree.specs.Entries.{group_count}

-- what a tree has at the first names of a path
pub record AncestorValue : Type 0 where
  -- how many names these are
  pub depth : ℕ
  -- the settings of the group there, if there is one
  pub settings : Option Settings
  -- how many groups are below
  pub descendants : ℕ

-- f of each number below n, the greatest first
abbrev pub downward : {A : Type 0} → (ℕ → A) → ℕ → List A
downward f zero = []
downward f (suc n) = f n ∷ downward f n

-- what the tree has at the first n names of p: the settings of the group there, and the number of groups below
abbrev pub ancestor_at : Tree → Path → ℕ → AncestorValue
ancestor_at T p n = record { depth = n; settings = group T (take n p); descendants = descendants T (take n p) }

-- at p and at each path above it
abbrev pub ancestors : Tree → Path → List AncestorValue
ancestors T p = downward (ancestor_at T p) (suc (length p))

-- at each path above p
abbrev pub ancestors_above : Tree → Path → List AncestorValue
ancestors_above T p = downward (ancestor_at T p) (length p)

-- the same of a map of groups and dead paths
abbrev pub ancestor_in : FiniteMap path_cmp (Option Settings) → Path → ℕ → AncestorValue
ancestor_in m p n = record { depth = n; settings = option_flatten (get m (take n p)); descendants = group_count m (is_above (take n p)) }
