-- All marks of a footprint, by what it keeps: marks, and numbers of names.
use Rattle.std.specs.Prelude.{ℕ, List, [], ◌∷◌, length, map}
use Rattle.cg_model.specs.Footprint as model
use Rattle.cg_locks.specs.declared.footprint.Kept.{Kept}
use Rattle.cg_locks.specs.declared.footprint.Kept.TheVariants.{One, Two, Three, Counted}
use Rattle.cg_locks.specs.declared.mark.Mark as rust
use Rattle.cg_locks.specs.declared.mark.Mark.TheVariants as marks
use Rattle.cg_locks.specs.Counts.{counts_at, prefixes, AreDescending}
use Rattle.cg_locks.specs.Meaning.{mark_of}

-- those on numbers of descendants, of groups above the path of this mark
abbrev pub counts_above : rust.Mark → List ℕ → List model.Mark
counts_above (marks.Changed p) ds = counts_at (prefixes p ds)
counts_above m ds = []

abbrev pub marks_of : Kept → List model.Mark
marks_of (One n m) = mark_of m ∷ []
marks_of (Two several) = map mark_of several.value.marks
marks_of (Three several) = map mark_of several.value.marks
marks_of (Counted more) = mark_of more.value.mark ∷ counts_above more.value.mark more.value.depths.items

-- the groups are above that path, the deepest first
abbrev pub HaveDepths : rust.Mark → List ℕ → Type 0
HaveDepths (marks.Changed p) ds = AreDescending (length p) ds
HaveDepths m ds = Unit {0}

abbrev pub HasDepths : Kept → Type 0
HasDepths (Counted more) = HaveDepths more.value.mark more.value.depths.items
HasDepths k = Unit {0}
