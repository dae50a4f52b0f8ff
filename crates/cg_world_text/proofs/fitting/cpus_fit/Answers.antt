use Rattle.std.proofs.Common.{nat_le, ap, ◌∙◌}
use Rattle.cg_world_text.proofs.LowCpus.{fits_by_last, none_fits}
use Rattle.cg_world_text.proofs.fitting.cpus_fit.Goals as goal

pub returns-in-Some : goal.returns-in-Some
returns-in-Some c = ap (nat_le c.in-Some.last) c.last_cpu.ensures ∙ fits_by_last c.args.cpus.now c.in-Some.last c.in-Some.ensures.member c.in-Some.ensures.greatest

pub returns-in-None : goal.returns-in-None
returns-in-None c = none_fits c.args.cpus.now c.in-None.ensures.none
