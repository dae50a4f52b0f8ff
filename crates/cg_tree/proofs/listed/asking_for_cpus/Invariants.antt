-- What was found, and what is left that asks, is all.
use Rattle.std.proofs.Common.{◌≡◌, ◌++◌, filter, drop}
use Rattle.cg_tree.specs.Listing.{asks_at}
use Rattle.cg_tree.proofs.listed.asking_for_cpus.Given as goal

abbrev pub invariant-loop-key : goal.invariant-loop-key
invariant-loop-key l = l.found.items ++ filter (asks_at l.nodes) (drop l.key-index l.keys) ≡ filter (asks_at l.nodes) l.keys
