use Rattle.std.proofs.Common.{ap, sym, ◌∙◌}
use Rattle.std.specs.Option.{option_copied}
use Rattle.cg_world.proofs.Runs.{below_by_end, less_by_test}
use Rattle.cg_world.proofs.gathered.is_behind.Goals as goal

pub returns-in-Some : goal.returns-in-Some
returns-in-Some g c = λ behind.
    below_by_end g.met.K.Ord.total c.args.key.now c.args.run.now c.in-Some.field-0.now
    (sym c.last.ensures.value ∙ ap option_copied c.in-Some.is)
    (sym c.cmp.ensures ∙ less_by_test c.cmp.result (sym c.is_lt.ensures ∙ behind)) c.requires
