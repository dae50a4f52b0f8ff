-- What a run tells where it found no plan.
use Rattle.std.specs.Prelude.{ℕ, List, ◌++◌, codes}
use Rattle.cg_script.specs.Request.{newline}

abbrev pub none_line : List ℕ
none_line = codes "no script was found that turns the one world into the other" ++ newline
