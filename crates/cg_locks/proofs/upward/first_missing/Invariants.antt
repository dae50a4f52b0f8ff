-- No path has a node from that many names on.
use Rattle.std.proofs.Common.{◌≡◌, ◌≤◌, ℕ, length, take, None}
use Rattle.cg_maps.specs.FiniteMap.{get}
use Rattle.cg_locks.proofs.upward.first_missing.Given as goal

abbrev pub invariant-up : goal.invariant-up
invariant-up l = (l.first ≤ length l.path) × ((d : ℕ) → l.first ≤ d → d ≤ length l.path → get l.nodes.keys (take d l.path) ≡ None)

abbrev pub decreases-up : goal.decreases-up
decreases-up l = l.first
