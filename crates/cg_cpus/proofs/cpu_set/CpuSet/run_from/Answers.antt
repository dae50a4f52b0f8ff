use Rattle.std.proofs.Common.{arith}
use Rattle.cg_cpus.proofs.Runs.{no_runs, first_run}
use Rattle.cg_cpus.proofs.cpu_set.CpuSet.run_from.Goals as goal

pub returns-then-first-eq-LIMIT-clause-none : goal.returns-then-first-eq-LIMIT-clause-none
returns-then-first-eq-LIMIT-clause-none c =
    no_runs c.args.self.now c.args.from c.requires (λ n l m. c.first_where-first.ensures.before n l (omega arith))

pub returns-clause-run : goal.returns-clause-run
returns-clause-run c =
    first_run c.args.self.now c.args.from c.first_where-first.result c.first_where-end.result
    c.first_where-first.ensures.bounds.0 (omega arith) c.first_where-end.ensures.bounds.0 c.first_where-end.ensures.bounds.1
    c.first_where-first.ensures.before (c.first_where-first.ensures.here (omega arith)) c.first_where-end.ensures.before c.first_where-end.ensures.here
