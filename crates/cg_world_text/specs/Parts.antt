-- The settings that the words of a group's line spell.
use Rattle.std.specs.Prelude.{List}
use Rattle.cg_text.specs.Words.{Word}
use Rattle.cg_text.specs.declared.settings.Settings.{Settings}
use Rattle.cg_world_text.specs.declared.version.Version.{Version}
use Rattle.cg_world_text.specs.Version.{last_cpu}
use Rattle.cg_text.specs.Reading.{SpellsFlag}
use Rattle.cg_world_text.specs.Statement.{SpellsControl, SpellsAskedCpus, SpellsLimits}

-- the words behind a group's path spell its settings
abbrev pub SpellsSettings : Version → Word → Word → Word → List Word → Settings → Type 0
SpellsSettings v control freeze cpus limits s =
    SpellsControl control s.control × SpellsFlag freeze s.freeze × SpellsAskedCpus (last_cpu v) cpus s.cpus × SpellsLimits v limits s.max_descendants s.max_depth
