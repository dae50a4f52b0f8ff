use Rattle.std.proofs.Common.{◌∙◌, refl, sym}
use Rattle.cg_txn.proofs.txn.Txn.back.Goals as goal

pub returns-then-not-has_savepoint-clause-refused : goal.returns-then-not-has_savepoint-clause-refused
returns-then-not-has_savepoint-clause-refused c =
    (refl, sym c.has_savepoint.ensures ∙ c.if-not-has_savepoint.true)

pub step_back-requires : goal.step_back-requires
step_back-requires c =
    sym c.has_savepoint.ensures ∙ c.if-not-has_savepoint.false

pub returns-clause-there : goal.returns-clause-there
returns-clause-there c =
    sym c.has_savepoint.ensures ∙ c.if-not-has_savepoint.false
