-- Groups without limits.
use Rattle.std.specs.Prelude.{◌≡◌, Some}
use Rattle.cg_maps.specs.FiniteMap.{FiniteMap, get}
use Rattle.cg_name.specs.Path.{Path, path_cmp}
use Rattle.cg_text.specs.declared.limit.Limit.TheVariants.{Max}
use Rattle.cg_text.specs.declared.settings.Settings.{Settings}

-- a group may have any number of descendants, as deep as may be
pub record IsUnlimited (s : Settings) : Type 0 where
  pub descendants : s.max_descendants ≡ Max
  pub depth : s.max_depth ≡ Max

-- each group may
abbrev pub AreUnlimited : FiniteMap path_cmp Settings → Type 0
AreUnlimited m = (p : Path) (s : Settings) → get m p ≡ Some s → IsUnlimited s
