-- What is taken off is a command or a savepoint.
use Rattle.std.proofs.Common.{◌∙◌, ap, sym}
use Rattle.cg_txn.specs.Items.{names_of}
use Rattle.cg_txn.specs.Stack.{commands, next_newest}
use Rattle.cg_txn.specs.declared.entry.Item.TheVariants as items
use Rattle.cg_txn.proofs.Names.{name_off, with_command}
use Rattle.cg_txn.proofs.Taking.{by_newest, ended}
use Rattle.cg_txn.proofs.items.take_newest.Goals as goal

pub returns-in-Command-clause-tail : goal.returns-in-Command-clause-tail
returns-in-Command-clause-tail c =
    by_newest next_newest c.loop-item.items.items c.pop_back.new.self.items (items.Command c.in-Command.entry) _ (ended _ _ _ _ c.in-Some.ensures.items c.in-Command.is) c.loop-item.invariant.tail

pub returns-in-Command-clause-value : goal.returns-in-Command-clause-value
returns-in-Command-clause-value c =
    sym (by_newest commands c.loop-item.items.items c.pop_back.new.self.items (items.Command c.in-Command.entry) _ (ended _ _ _ _ c.in-Some.ensures.items c.in-Command.is) c.loop-item.invariant.value)

pub returns-in-Command-clause-names : goal.returns-in-Command-clause-names
returns-in-Command-clause-names c = c.loop-item.invariant.names ∙ ap names_of (ended _ _ _ _ c.in-Some.ensures.items c.in-Command.is) ∙ with_command c.pop_back.new.self.items c.in-Command.entry

pub loop-item-preserved : goal.loop-item-preserved
loop-item-preserved c = record {
  tail = by_newest next_newest c.loop-item.items.items c.pop_back.new.self.items (items.Savepoint c.in-Savepoint.field-0) _ (ended _ _ _ _ c.in-Some.ensures.items c.in-Savepoint.is) c.loop-item.invariant.tail;
  value = by_newest commands c.loop-item.items.items c.pop_back.new.self.items (items.Savepoint c.in-Savepoint.field-0) _ (ended _ _ _ _ c.in-Some.ensures.items c.in-Savepoint.is) c.loop-item.invariant.value;
  names = name_off c.pop_back.new.self.items c.loop-item.items.items c.in-Savepoint.field-0 c.loop-item.names.keys c.pop.new.self.keys c.pop.result (ended _ _ _ _ c.in-Some.ensures.items c.in-Savepoint.is) c.loop-item.invariant.names c.pop.ensures.keys c.pop.ensures.found.1;
}
