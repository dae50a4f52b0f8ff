use Rattle.std.proofs.Common.{◌≡◌, take}
use Rattle.cg_command_text.proofs.keyword.is_keyword.Given as goal

abbrev pub invariant-loop-i : goal.invariant-loop-i
invariant-loop-i l = take l.i l.word ≡ take l.i l.keyword
