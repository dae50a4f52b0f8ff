-- How the counts of processes change as one comes or goes: from its group upward, as long as a path turns populated or back.
use Rattle.std.specs.Prelude.{◌≡◌, ◌<◌, ◌&&◌, ℕ, Bool, true, false, option_map, Some}
use Rattle.cg_maps.specs.FiniteMap.{FiniteMap, get}
use Rattle.cg_name.specs.Path.{Path, path_cmp, is_above, is_prefix, is_root}
use Rattle.cg_tree.specs.Entries.{counted_if}

-- with a process more in the group at p: one more at p and at each path above it up to a last one. Each of these but the last had
-- none before, and so is one more at the path above it; the last had some, or it is the root's path
pub record IsOneMoreUp (p : Path) (less more : FiniteMap path_cmp ℕ) : Type 0 where
  pub last : Path
  pub begins : is_prefix last p ≡ true
  pub counts : (q : Path) → get more q ≡ option_map (counted_if true (is_prefix last q && is_prefix q p)) (get less q)
  pub none_before : (q : Path) (n : ℕ) → is_above last q ≡ true → is_prefix q p ≡ true → get less q ≡ Some n → n ≡ 0
  pub some_before : (n : ℕ) → is_root last ≡ false → get less last ≡ Some n → 0 < n

-- a process comes to the group at p, or goes from there
abbrev pub IsCountedUp : Bool → Path → FiniteMap path_cmp ℕ → FiniteMap path_cmp ℕ → Type 0
IsCountedUp true p old new = IsOneMoreUp p old new
IsCountedUp false p old new = IsOneMoreUp p new old
