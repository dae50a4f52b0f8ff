-- What is taken off is a command, the savepoint with the name, or another savepoint.
use Rattle.std.proofs.Common.{◌∙◌, ap, sym}
use Rattle.cg_txn.specs.Items.{names_of}
use Rattle.cg_txn.specs.Stack.{next_back}
use Rattle.cg_txn.specs.declared.entry.Item.TheVariants as items
use Rattle.cg_txn.proofs.Names.{compared, name_off, with_command}
use Rattle.cg_txn.proofs.Taking.{by_newest, ended, passes_savepoint, stops_at_savepoint}
use Rattle.cg_txn.proofs.items.take_back.Goals as goal

pub returns-in-Command-clause-value : goal.returns-in-Command-clause-value
returns-in-Command-clause-value c =
    by_newest (next_back c.args.name) c.loop-item.items.items c.pop_back.new.self.items (items.Command c.in-Command.entry) _ (ended _ _ _ _ c.in-Some.ensures.items c.in-Command.is) c.loop-item.invariant.value

pub returns-in-Command-clause-names : goal.returns-in-Command-clause-names
returns-in-Command-clause-names c = c.loop-item.invariant.names ∙ ap names_of (ended _ _ _ _ c.in-Some.ensures.items c.in-Command.is) ∙ with_command c.pop_back.new.self.items c.in-Command.entry

pub returns-then-eq-clause-value : goal.returns-then-eq-clause-value
returns-then-eq-clause-value c =
    stops_at_savepoint c.args.name c.in-Savepoint.found c.loop-item.items.items c.pop_back.new.self.items _ (ended _ _ _ _ c.in-Some.ensures.items c.in-Savepoint.is)
    (sym (compared c.in-Savepoint.found c.args.name) ∙ sym c.eq.ensures ∙ c.if-eq.true) c.loop-item.invariant.value

pub returns-then-eq-clause-names : goal.returns-then-eq-clause-names
returns-then-eq-clause-names c =
    name_off c.pop_back.new.self.items c.loop-item.items.items c.in-Savepoint.found c.loop-item.names.keys c.pop.new.self.keys c.pop.result (ended _ _ _ _ c.in-Some.ensures.items c.in-Savepoint.is) c.loop-item.invariant.names c.pop.ensures.keys c.pop.ensures.found.1

pub loop-item-preserved : goal.loop-item-preserved
loop-item-preserved c = record {
  value =
      passes_savepoint c.args.name c.in-Savepoint.found c.loop-item.items.items c.pop_back.new.self.items _ (ended _ _ _ _ c.in-Some.ensures.items c.in-Savepoint.is)
      (sym (compared c.in-Savepoint.found c.args.name) ∙ sym c.eq.ensures ∙ c.if-eq.false) c.loop-item.invariant.value;
  names = name_off c.pop_back.new.self.items c.loop-item.items.items c.in-Savepoint.found c.loop-item.names.keys c.pop.new.self.keys c.pop.result (ended _ _ _ _ c.in-Some.ensures.items c.in-Savepoint.is) c.loop-item.invariant.names c.pop.ensures.keys c.pop.ensures.found.1;
}
