use Rattle.std.proofs.Common.{◌≡◌, ◌+◌, length, take}
use Rattle.std.specs.List.{sum_by}
use Rattle.cg_desk.proofs.auditing.lengths_add_up.Given as goal

-- the calls so far and those that are left
abbrev pub invariant-loop-session : goal.invariant-loop-session
invariant-loop-session l = sum_by (λ s. length s.log) (take l.session-index l.sessions) + l.left ≡ l.calls
