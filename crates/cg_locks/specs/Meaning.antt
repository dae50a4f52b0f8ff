-- What the marks of the code mean in the model.
use Rattle.std.specs.Prelude.{List, [], Option, Some, None}
use Rattle.cg_model.specs.Footprint as model
use Rattle.cg_locks.specs.declared.footprint.Counted.{Counted}
use Rattle.cg_locks.specs.declared.mark.Mark as rust
use Rattle.cg_locks.specs.declared.mark.Mark.TheVariants as marks
use Rattle.cg_locks.specs.Counts.{counts_at, prefixes}

abbrev pub mark_of : rust.Mark → model.Mark
mark_of (marks.Changed p) = model.X p
mark_of (marks.Read p) = model.S p
mark_of (marks.Stays p) = model.N p
mark_of (marks.Process k) = model.Pid k

-- the marks on numbers of descendants, where there are any
abbrev pub counts_of : Option Counted → List model.Mark
counts_of None = []
counts_of (Some c) = counts_at (prefixes c.path.now c.depths.now)
