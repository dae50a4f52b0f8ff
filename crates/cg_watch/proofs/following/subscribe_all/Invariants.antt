use Rattle.std.proofs.Common.{◌≡◌, ◌<◌, ◌≤◌, ℕ, get_or}
use Rattle.cg_watch.specs.Subscribed.{IsSubscribed}
use Rattle.cg_watch.proofs.following.subscribe_all.Given as goal

-- those so far are subscribed, and the others are as they were
abbrev pub invariant-loop-watch : goal.invariant-loop-watch
invariant-loop-watch g l =
    ((k : ℕ) (d : _) → k < l.watch-index → IsSubscribed g.S.Sink.taken (get_or l.initial.watches k d) (get_or l.watches k d))
    × ((k : ℕ) (d : _) → l.watch-index ≤ k → get_or l.watches k d ≡ get_or l.initial.watches k d)
