use Rattle.std.proofs.Common.{◌≡◌, map, filter}
use Rattle.cg_text.specs.Words.{is_filled}
use Rattle.cg_import.proofs.values.lines_in.Given as goal

-- what was kept is what has anything in it
abbrev pub invariant-loop-line : goal.invariant-loop-line
invariant-loop-line l = map (λ line. line.now) l.lines.items ≡ filter is_filled (map (λ line. line.now) l.yielded)
