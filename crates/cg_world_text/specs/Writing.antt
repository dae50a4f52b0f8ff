-- Parts of the text that is written for a world.
use Rattle.std.specs.Prelude.{ℕ, List, ◌++◌, codes}
use Rattle.std.specs.List.{flat_map}
use Rattle.cg_maps.specs.FiniteSet.{FiniteSet}
use Rattle.cg_name.specs.Controller.{controller_word}
use Rattle.cg_cpus.specs.CpuList.{cpus_text}
use Rattle.cg_text.specs.Controllers.{members}
use Rattle.cg_text.specs.declared.controllers.Controllers.{Controllers}
use Rattle.cg_world_text.specs.declared.version.Version.{Version}
use Rattle.cg_world_text.specs.Version.{version_word}
use Rattle.cg_world_text.specs.World.{newline, space}

-- the lines of the version, the controllers and the CPUs that are online
abbrev pub head_lines : Version → Controllers → FiniteSet → List ℕ
head_lines v s online =
    codes "world " ++ version_word v ++ newline
    ++ codes "controllers" ++ flat_map (λ c. space ++ controller_word c) (members s) ++ newline
    ++ codes "online " ++ cpus_text online ++ newline
