use Rattle.std.proofs.Common.{◌≡◌, take}
use Rattle.std.specs.BTreeMap.{get}
use Rattle.std.specs.Ordering.{nat_cmp}
use Rattle.cg_batch.specs.Ends.{explained_line, lines_by}
use Rattle.cg_batch.proofs.ends.explained_lines_of.Given as goal

-- the lines so far, and how many they are
abbrev pub invariant-loop-end : goal.invariant-loop-end
invariant-loop-end l = (l.number ≡ l.end-index) × (l.text.items ≡ lines_by (explained_line (get nat_cmp l.outcomes)) 1 (take l.end-index l.ends))
