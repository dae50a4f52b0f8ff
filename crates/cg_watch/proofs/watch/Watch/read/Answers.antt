use Rattle.cg_watch.proofs.watch.Watch.read.Goals as goal

pub returns-in_err-path-clause-syntax : goal.returns-in_err-path-clause-syntax
returns-in_err-path-clause-syntax g c = λ e. c.in_err-path.ensures.syntax (let told = rw e at c.from_residual.ensures.1 in cc)
