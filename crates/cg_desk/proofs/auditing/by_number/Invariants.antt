use Rattle.std.proofs.Common.{◌≡◌, ◌≤◌, take}
use Rattle.std.specs.List.{AllByRecursion}
use Rattle.cg_history.specs.SessionMap.{IsOnceEach}
use Rattle.cg_log.specs.Rests.{rests_of}
use Rattle.cg_desk.proofs.auditing.by_number.Given as goal

-- the logs so far, whose numbers are within and distinct
abbrev pub invariant-loop-session : goal.invariant-loop-session
invariant-loop-session l =
    (l.rests ≡ rests_of (take l.session-index l.sessions)) × IsOnceEach l.rests × AllByRecursion (λ x. (1 ≤ x.0) × (x.0 ≤ l.handed)) l.rests
