use Rattle.std.proofs.Common.{arith, of_calls, rules}
use Rattle.cg_runner.specs.Workers.{KeepsTelling}
use Rattle.cg_runner.proofs.Each.{zip_at}
use Rattle.cg_runner.proofs.workers.work_all.Goals as goal

-- each worker did what a call of the closure may do
pub returns : goal.returns
returns g c =
    zip_at (KeepsTelling c.args.tries c.args.scripts.now) c.args.workers.now c.for_each_mut.new.s (omega arith)
    (λ i d inside. let call = (c.for_each_mut.ensures i d inside).1 in search (rules, of_calls))
