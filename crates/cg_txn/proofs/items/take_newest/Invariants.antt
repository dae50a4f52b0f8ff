-- What is left has all the commands, and the newest one with what stands below it.
use Rattle.std.proofs.Common.{◌≡◌, length}
use Rattle.cg_txn.specs.Items.{names_of, stack_of}
use Rattle.cg_txn.specs.Stack.{commands, next_newest}
use Rattle.cg_txn.proofs.items.take_newest.Given as goal

abbrev pub invariant-loop-item : goal.invariant-loop-item
invariant-loop-item l = record {
  tail : next_newest (stack_of l.items.items) ≡ next_newest (stack_of l.fn.items.items);
  value : commands (stack_of l.items.items) ≡ commands (stack_of l.fn.items.items);
  names : l.names.keys ≡ names_of l.items.items;
}

abbrev pub decreases-loop-item : goal.decreases-loop-item
decreases-loop-item l = length l.items.items
