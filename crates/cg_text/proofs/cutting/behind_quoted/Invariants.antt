use Rattle.std.proofs.Common.{List, ℕ, ◌↔◌, length}
use Rattle.cg_text.specs.Cutting.{Closes}
use Rattle.cg_text.proofs.cutting.behind_quoted.Given as goal

-- what stands behind the closing mark of the rest stands behind that of the text
abbrev pub invariant-loop-byte : goal.invariant-loop-byte
invariant-loop-byte l = (behind : List ℕ) → Closes l.rest behind ↔ Closes l.text behind

abbrev pub decreases-loop-byte : goal.decreases-loop-byte
decreases-loop-byte l = length l.rest
