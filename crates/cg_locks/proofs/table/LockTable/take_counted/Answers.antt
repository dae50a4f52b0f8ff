use Rattle.std.proofs.Common.{refl, ap, ◌∙◌}
use Rattle.std.proofs.lemmas.Result.{on_ok_weaker, on_err_weaker}
use Rattle.cg_locks.specs.Both.{both}
use Rattle.cg_locks.proofs.Boths.{more_by_second}
use Rattle.cg_locks.proofs.table.LockTable.take_counted.Goals as goal

pub returns-clause-ok : goal.returns-clause-ok
returns-clause-ok c =
    let G = c.self.inside.sole in
    on_ok_weaker c.take_counted.result (λ come. more_by_second G c.self.inside.shared G c.take_counted.new.self c.args.self.now _ c.self.view_is refl _ refl come) c.take_counted.ensures.ok

pub returns-clause-err : goal.returns-clause-err
returns-clause-err c = on_err_weaker c.take_counted.result (λ same. ap (both c.self.inside.sole) same ∙ c.self.view_is) c.take_counted.ensures.err
