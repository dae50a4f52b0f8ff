-- What an import gives.
use Rattle.std.specs.Prelude.{◌≡◌, ℕ, Bool, true, List, [], Option, MatchOption}
use Rattle.cg_maps.specs.FiniteSet.{FiniteSet}
use Rattle.cg_model.specs.Sound.{Sound}
use Rattle.cg_model.specs.Tree.{Tree}
use Rattle.cg_world_text.specs.World.{world_text}
use Rattle.cg_import.specs.Files.{Known, Missing}
use Rattle.cg_import.specs.Mounted.{AreOnline, IsMountedAt, IsWhole}

-- The text of the world of a folder, with just these CPUs online, where some are asked for, or with those that are. Where there are
-- no lines on what was left out, it is whole.
abbrev pub IsWorldOf : Known → Missing → List ℕ → Option FiniteSet → List ℕ → List ℕ → Type 0
IsWorldOf file missing root online text lines =
    (T : Tree) × Sound T × MatchOption online (AreOnline file missing root T.online) (λ cpus. T.online ≡ cpus) × (text ≡ world_text T) × IsMountedAt file missing root T × (lines ≡ [] → IsWhole file missing root T)

-- what was left out, by lines on it, may be so: there is nothing, or it isn't asked to be strict
abbrev pub MayLeaveOut : Bool → List ℕ → Type 0
MayLeaveOut is_strict lines = is_strict ≡ true → lines ≡ []
