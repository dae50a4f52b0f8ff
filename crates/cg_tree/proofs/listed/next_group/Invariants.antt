-- The entries that were passed over are dead.
use Rattle.std.proofs.Common.{◌≡◌, ◌-◌, drop, length}
use Rattle.cg_tree.specs.Listing.{listed}
use Rattle.cg_tree.proofs.listed.next_group.Given as goal

abbrev pub invariant-loop-key : goal.invariant-loop-key
invariant-loop-key l = listed l.nodes (drop l.passed l.keys) ≡ listed l.nodes (drop l.fn.passed l.keys)

abbrev pub decreases-loop-key : goal.decreases-loop-key
decreases-loop-key l = length l.keys - l.passed
