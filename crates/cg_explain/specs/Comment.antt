-- Comments in an output.
use Rattle.std.specs.Prelude.{ℕ, List, ◌++◌, codes}
use Rattle.cg_script.specs.Request.{newline}

-- a comment: a line behind a number sign and a space
abbrev pub comment : List ℕ → List ℕ
comment text = codes "# " ++ text ++ newline
