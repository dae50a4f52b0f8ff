use Rattle.cg_path_tree.specs.Chains.{link_in}
use Rattle.cg_path_tree.proofs.Chaining.{IsWalkTo}
use Rattle.cg_path_tree.proofs.chains.find_before.Given as goal

abbrev pub invariant-loop : goal.invariant-loop
invariant-loop g l = IsWalkTo (link_in l.nodes) l.fn.head l.key l.at l.counter
