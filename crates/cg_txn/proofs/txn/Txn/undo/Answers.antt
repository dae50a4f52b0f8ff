use Rattle.std.proofs.Common.{◌∙◌, ap, arith, sym}
use Rattle.std.proofs.lemmas.Bool.{false≢true}
use Rattle.cg_txn.specs.Items.{names_of}
use Rattle.cg_txn.specs.declared.entry.Item.TheVariants as items
use Rattle.cg_txn.proofs.Changed.{taken_off}
use Rattle.cg_txn.proofs.Names.{with_command}
use Rattle.cg_txn.proofs.Taking.{ended, not_last}
use Rattle.cg_txn.proofs.txn.Txn.undo.Goals as goal

pub unreachable-requires : goal.unreachable-requires
unreachable-requires c =
    false≢true (sym (not_last c.self.inside.items.items c.pop_back.new.self.items c.in-Some-Savepoint.field-0-0 c.ends_in_command.result (ended _ _ _ _ c.in-Some-Savepoint.ensures.items c.in-Some-Savepoint.field-0-is) c.ends_in_command.ensures) ∙ c.if-not-ends_in_command.false)

pub invariant_of-self : goal.invariant_of-self
invariant_of-self c =
    (c.self.invariant.0 ∙ ap names_of (ended _ _ _ _ c.in-Some-Command.ensures.items c.in-Some-Command.field-0-is) ∙ with_command c.pop_back.new.self.items c.in-Some-Command.entry, λ r. omega (arith, c.self.invariant.1 r, c.in-Some-Command.ensures.cases, c.in-Some-Command.ensures.capacity))

pub returns-clause-ok : goal.returns-clause-ok
returns-clause-ok c =
    taken_off c.args.self.now c.self.inside.number.0 c.pop_back.new.self.items c.self.inside.items.items (items.Command c.in-Some-Command.entry) c.self.inside.reserved c.self.view_is (ended _ _ _ _ c.in-Some-Command.ensures.items c.in-Some-Command.field-0-is)
