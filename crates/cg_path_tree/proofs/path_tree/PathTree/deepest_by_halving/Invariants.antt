use Rattle.std.proofs.Common.{◌≡◌, ◌-◌, ◌+◌, ◌<◌, ◌≤◌, ℕ, length, take, None, Some}
use Rattle.cg_maps.specs.FiniteMap.{get}
use Rattle.cg_path_tree.specs.Nodes.{AreClosed}
use Rattle.cg_path_tree.proofs.path_tree.PathTree.deepest_by_halving.Given as goal

abbrev pub invariant-loop-above : goal.invariant-loop-above
invariant-loop-above g l =
    (l.depth < l.above) × (l.above ≤ length l.path + 1) × (length l.path ≤ 64) × (get l.self.keys (take l.depth l.path) ≡ Some l.found) × ((d : ℕ) → l.above ≤ d → d ≤ length l.path → get l.self.keys (take d l.path) ≡ None) × AreClosed l.self.keys

abbrev pub decreases-loop-above : goal.decreases-loop-above
decreases-loop-above g l = l.above - l.depth
