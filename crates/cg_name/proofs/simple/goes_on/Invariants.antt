use Rattle.std.proofs.Common.{◌≡◌, ℕ, suc, ◌-◌, ◌<◌, ◌≤◌, true, length, drop, get_or}
use Rattle.cg_name.specs.Simple.{may_follow}
use Rattle.cg_name.proofs.simple.goes_on.Given as goal

-- what is left is the end of the text, and each byte before it, and its first, may stand behind the one before
abbrev pub invariant-loop-front : goal.invariant-loop-front
invariant-loop-front l = record {
  within : length l.rest ≤ length l.text;
  rest : l.rest ≡ drop (length l.text - length l.rest) l.text;
  tested : (k : ℕ) → k < length l.text - length l.rest → suc k < length l.text → may_follow (get_or l.text k 0) (get_or l.text (suc k) 0) ≡ true;
}

abbrev pub decreases-loop-front : goal.decreases-loop-front
decreases-loop-front l = length l.rest
