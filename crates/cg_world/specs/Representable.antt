-- What code can hold of a tree.
use Rattle.std.specs.Prelude.{◌≡◌, ℕ, ◌≤◌, true, Some}
use Rattle.cg_maps.specs.FiniteSet.{FiniteSet, has}
use Rattle.cg_name.specs.Path.{Path, IsPath}
use Rattle.cg_text.specs.declared.settings.Settings.{Settings}
use Rattle.cg_model.specs.Tree.{Tree, group, place_of}

-- no CPU number of the set is above the greatest
abbrev pub AreCpusUpTo : ℕ → FiniteSet → Type 0
AreCpusUpTo most s = (n : ℕ) → has s n ≡ true → n ≤ most

-- a PID, from 1 to 4,194,303
abbrev pub IsPid : ℕ → Type 0
IsPid k = (1 ≤ k) × (k ≤ 4194303)

-- what code can hold, sound or not: CPU numbers up to 1,023, paths of groups, and PIDs
pub record IsRepresentable (T : Tree) : Type 0 where
  pub online : AreCpusUpTo 1023 T.online
  pub groups : (p : Path) (s : Settings) → group T p ≡ Some s → IsPath p × AreCpusUpTo 1023 s.cpus
  pub processes : (k : ℕ) (p : Path) → place_of T k ≡ Some p → IsPid k × IsPath p
