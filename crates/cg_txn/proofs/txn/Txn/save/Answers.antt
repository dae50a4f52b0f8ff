use Rattle.std.proofs.Common.{◌++◌, ◌∷◌, [], ◌∙◌, ap, refl, sym}
use Rattle.std.proofs.lemmas.Bool.{false≢true}
use Rattle.cg_txn.specs.Stack.{has_savepoint}
use Rattle.cg_txn.specs.declared.entry.Item.TheVariants as items
use Rattle.cg_txn.proofs.Changed.{found, name_on, not_as_taken, put_on, refused_as_taken}
use Rattle.cg_txn.proofs.txn.Txn.save.Goals as goal

pub returns-then-has_savepoint-clause-taken : goal.returns-then-has_savepoint-clause-taken
returns-then-has_savepoint-clause-taken c =
    refused_as_taken (has_savepoint c.args.name c.args.self.now.items)
    (sym c.has_savepoint.ensures ∙ c.if-has_savepoint.true)

pub returns-then-is_err-clause-taken : goal.returns-then-is_err-clause-taken
returns-then-is_err-clause-taken c =
    not_as_taken _ (has_savepoint c.args.name c.args.self.now.items) refl
    (sym c.has_savepoint.ensures ∙ c.if-has_savepoint.false)

pub returns-then-is_err-2-clause-taken : goal.returns-then-is_err-2-clause-taken
returns-then-is_err-2-clause-taken c =
    not_as_taken _ (has_savepoint c.args.name c.args.self.now.items) refl
    (sym c.has_savepoint.ensures ∙ c.if-has_savepoint.false)

pub returns-clause-taken : goal.returns-clause-taken
returns-clause-taken c =
    not_as_taken _ (has_savepoint c.args.name c.args.self.now.items) refl
    (sym c.has_savepoint.ensures ∙ c.if-has_savepoint.false)

pub invariant_of-self-2 : goal.invariant_of-self-2
invariant_of-self-2 c = (
  name_on c.args.name c.self.inside.items.items c.push_back_reserved.new.self.items c.self.inside.names.keys c.insert.new.self.keys c.insert.result c.self.invariant.0
      (found c.args.name c.args.self.now c.self.inside.number.0 c.self.inside.items.items c.self.inside.names.keys c.self.inside.reserved c.self.view_is c.self.invariant.0 ∙ sym c.has_savepoint.ensures ∙ c.if-has_savepoint.false) c.insert.ensures.keys (sym c.is_err-2.ensures.value ∙ c.if-is_err-2.false)
      (c.push_back_reserved.ensures.items ∙ ap (λ l. l ++ items.Savepoint c.args.name ∷ []) c.reserve.ensures.items),
  λ e. absurd (false≢true e),
)

pub returns-clause-ok : goal.returns-clause-ok
returns-clause-ok c =
    put_on c.args.self.now c.self.inside.number.0 c.self.inside.items.items c.push_back_reserved.new.self.items (items.Savepoint c.args.name) c.self.inside.reserved c.self.view_is
    (c.push_back_reserved.ensures.items ∙ ap (λ l. l ++ items.Savepoint c.args.name ∷ []) c.reserve.ensures.items)
