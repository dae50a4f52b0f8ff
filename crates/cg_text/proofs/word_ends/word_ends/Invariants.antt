use Rattle.std.proofs.Common.{◌≡◌, ◌+◌, ◌≤◌, length, take}
use Rattle.cg_text.proofs.Masks.{IsAheadOf}
use Rattle.cg_text.proofs.word_ends.word_ends.Given as goal

abbrev pub invariant-loop-front : goal.invariant-loop-front
invariant-loop-front l = record {
  first : l.first ≡ take 16 l.line;
  long : length l.rest + 16 ≤ length l.line;
  ends : IsAheadOf l.line l.rest l.ends l.unusual;
}

abbrev pub decreases-loop-front : goal.decreases-loop-front
decreases-loop-front l = length l.rest
