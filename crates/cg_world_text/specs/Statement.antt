-- The lines of a world text: what each says, by its words and the version of the text.
use Rattle.std.specs.Prelude.{◌≡◌, ◌⊎◌, ◌==◌, ℕ, false, List, [], ◌∷◌, codes}
use Rattle.std.specs.List.{slice_split}
use Rattle.cg_maps.specs.FiniteSet.{FiniteSet, is_empty_set}
use Rattle.cg_maps.specs.FiniteMap.{empty}
use Rattle.cg_name.specs.Controller.{controller_word}
use Rattle.cg_name.specs.declared.controller.Controller.{Controller}
use Rattle.cg_name.specs.Path.{SpellsPath}
use Rattle.cg_cpus.specs.CpuList.{SpellsCpus}
use Rattle.cg_text.specs.Words.{Word}
use Rattle.cg_text.specs.Controllers as sets
use Rattle.cg_text.specs.Controllers.{with_controller, no_controllers}
use Rattle.cg_text.specs.declared.controllers.Controllers as controllers
use Rattle.cg_text.specs.Reading.{SpellsFlag, SpellsPid, SpellsLimit}
use Rattle.cg_text.specs.declared.limit.Limit.{Limit}
use Rattle.cg_text.specs.declared.limit.Limit.TheVariants.{Max}
use Rattle.cg_world.specs.Representable.{AreCpusUpTo}
use Rattle.cg_world_text.specs.declared.statement.Statement.{Statement}
use Rattle.cg_world_text.specs.declared.statement.Statement.TheVariants.{Version, Controllers, Online, Group, Process, End}
use Rattle.cg_world_text.specs.declared.version.Version as versions
use Rattle.cg_world_text.specs.declared.version.Version.TheVariants.{One, Two}
use Rattle.cg_world_text.specs.Version.{version_word, last_cpu}

-- the words name controllers that the set lacks, none twice, and all is the set with them
abbrev pub AddsControllers : controllers.Controllers → List Word → controllers.Controllers → Type 0
AddsControllers s [] all = all ≡ s
AddsControllers s (w ∷ ws) all = (c : Controller) × (w ≡ controller_word c) × (sets.has s c ≡ false) × AddsControllers (with_controller c s) ws all

-- names of controllers joined by commas, or a minus for none
abbrev pub SpellsControl : Word → controllers.Controllers → Type 0
SpellsControl w s = ((w ≡ codes "-") × (s ≡ no_controllers)) ⊎ AddsControllers no_controllers (slice_split (λ b. b == 44) w) s

-- a list of a set that has a CPU, none above the greatest
abbrev pub SpellsSomeCpus : ℕ → Word → FiniteSet → Type 0
SpellsSomeCpus most w s = SpellsCpus w s × (is_empty_set s ≡ false) × AreCpusUpTo most s

-- such a list, or a minus for none
abbrev pub SpellsAskedCpus : ℕ → Word → FiniteSet → Type 0
SpellsAskedCpus most w s = ((w ≡ codes "-") × (s ≡ empty)) ⊎ SpellsSomeCpus most w s

-- the words behind a group's CPUs: none in version 1, where nothing is limited, and in version 2 the limits on descendants and on depth
abbrev pub SpellsLimits : versions.Version → List Word → Limit → Limit → Type 0
SpellsLimits One ws descendants depth = (ws ≡ []) × (descendants ≡ Max) × (depth ≡ Max)
SpellsLimits Two ws descendants depth = (first second : Word) × (ws ≡ first ∷ second ∷ []) × SpellsLimit first descendants × SpellsLimit second depth

-- what a line of a world of the version says
abbrev pub SpellsStatement : versions.Version → List Word → Statement → Type 0
SpellsStatement v ws (Version n) = ws ≡ codes "world" ∷ version_word n ∷ []
SpellsStatement v ws (Controllers s) = (names : List Word) × (ws ≡ codes "controllers" ∷ names) × AddsControllers no_controllers names s
SpellsStatement v ws (Online s) = (w : Word) × (ws ≡ codes "online" ∷ w ∷ []) × SpellsSomeCpus (last_cpu v) w s
SpellsStatement v ws (Group p s) =
    (path control freeze cpus : Word) × (limits : List Word) × (ws ≡ codes "group" ∷ path ∷ control ∷ freeze ∷ cpus ∷ limits) × SpellsPath path p
    × SpellsControl control s.control × SpellsFlag freeze s.freeze × SpellsAskedCpus (last_cpu v) cpus s.cpus × SpellsLimits v limits s.max_descendants s.max_depth
SpellsStatement v ws (Process k p) = (pid path : Word) × (ws ≡ codes "proc" ∷ pid ∷ path ∷ []) × SpellsPid pid k × SpellsPath path p
SpellsStatement v ws End = ws ≡ codes "end" ∷ []
