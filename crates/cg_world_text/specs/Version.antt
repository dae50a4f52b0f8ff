-- The two versions of world texts.
use Rattle.std.specs.Prelude.{ℕ, List, codes}
use Rattle.cg_world_text.specs.declared.version.Version.{Version}
use Rattle.cg_world_text.specs.declared.version.Version.TheVariants.{One, Two}

-- the word behind `world`
abbrev pub version_word : Version → List ℕ
version_word One = codes "1"
version_word Two = codes "2"

-- the greatest CPU number that a text of the version may name
abbrev pub last_cpu : Version → ℕ
last_cpu One = 127
last_cpu Two = 1023
