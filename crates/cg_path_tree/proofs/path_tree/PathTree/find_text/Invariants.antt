use Rattle.cg_path_tree.specs.Chains.{link_in}
use Rattle.cg_path_tree.proofs.Chaining.{IsSearch}
use Rattle.cg_path_tree.proofs.Searching.{Sought}
use Rattle.cg_path_tree.proofs.path_tree.PathTree.find_text.Given as goal

abbrev pub invariant-loop : goal.invariant-loop
invariant-loop g l = IsSearch l.self-inside.order.items (link_in l.self-inside.nodes) l.at l.counter (Sought l.self-inside.nodes l.text)
