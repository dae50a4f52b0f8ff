use Rattle.std.proofs.Common.{◌≡◌, map, take}
use Rattle.std.specs.List.{AllByRecursion}
use Rattle.cg_path_tree.proofs.Leading.{IsNumbered, unnumbered}
use Rattle.cg_path_tree.proofs.sorting.in_order.Given as goal

abbrev pub invariant-loop-entry : goal.invariant-loop-entry
invariant-loop-entry l = record {
  texts : map unnumbered l.entries.items ≡ take l.entry-index l.entry-items;
  numbers : AllByRecursion IsNumbered l.entries.items;
}

abbrev pub invariant-loop-entry-2 : goal.invariant-loop-entry-2
invariant-loop-entry-2 l = l.keys.items ≡ map (λ e. e.2) (take l.entry-index l.entry-items)
