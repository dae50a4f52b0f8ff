use Rattle.std.proofs.lemmas.Result.{err_from_is_err_and}
use Rattle.cg_world_text.proofs.parts.read_settings.Goals as goal

pub returns-in_err-control-clause-syntax : goal.returns-in_err-control-clause-syntax
returns-in_err-control-clause-syntax c = λ e s h. c.in_err-control.ensures.syntax s.control h.0

pub returns-in_err-cpus-clause-syntax : goal.returns-in_err-cpus-clause-syntax
returns-in_err-cpus-clause-syntax c =
    let gone = err_from_is_err_and c.from_residual-in_err-cpus.result c.from_residual-in_err-cpus.ensures.1 in
    λ e s h. c.in_err-cpus.ensures.syntax (cc (gone.1, gone.2)) s.cpus h.2
