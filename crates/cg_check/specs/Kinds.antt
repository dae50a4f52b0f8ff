-- The words for kinds of texts.
use Rattle.std.specs.Prelude.{ℕ, List, codes}
use Rattle.cg_check.specs.declared.kind.Kind.{Kind}
use Rattle.cg_check.specs.declared.kind.Kind.TheVariants.{World, Schedule, Script}

abbrev pub kind_word : Kind → List ℕ
kind_word World = codes "world"
kind_word Schedule = codes "schedule"
kind_word Script = codes "script"
