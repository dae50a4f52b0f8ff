-- What stands at an index, and what stands behind it.
use Rattle.std.proofs.Common.{◌≡◌, ◌++◌, ◌+◌, Some, drop, length, reverse, subst, ap, ◌∙◌, arith}
use Rattle.cg_txn.specs.Items.{taken_items}
use Rattle.cg_txn.specs.Stack.{commands}
use Rattle.cg_txn.proofs.OldestFirst.{at_command, at_savepoint, none_behind}
use Rattle.cg_txn.proofs.Taking.{same_length}
use Rattle.cg_txn.proofs.txn.Txn.command_at.Goals as goal

pub returns-then-len-index : goal.returns-then-len-index
returns-then-len-index c =
    let as_many = same_length c.self.inside.items.items ∙ ap (λ s. length s.items) c.self.view_is in
    none_behind c.args.self.now.items c.args.index (omega (arith, as_many))

pub returns-in-Command : goal.returns-in-Command
returns-in-Command c =
    subst (λ s. commands (drop c.args.index (reverse s.items)) ≡ taken_items (Some c.in-Command.entry) ++ commands (drop (c.args.index + 1) (reverse s.items))) c.self.view_is
    (at_command c.self.inside.items.items c.args.index c.index.result.now (omega arith) c.index.ensures c.in-Command.entry c.in-Command.is)

pub returns-in-Savepoint : goal.returns-in-Savepoint
returns-in-Savepoint c =
    subst (λ s. commands (drop c.args.index (reverse s.items)) ≡ commands (drop (c.args.index + 1) (reverse s.items))) c.self.view_is
    (at_savepoint c.self.inside.items.items c.args.index c.index.result.now (omega arith) c.index.ensures c.in-Savepoint.field-0 c.in-Savepoint.is)
