use Rattle.std.proofs.Common.{rules}
use Rattle.std.proofs.lemmas.Option.{IfSome_then}
use Rattle.cg_lines.specs.Lines.{pending}
use Rattle.cg_diff.proofs.TwoWorlds.{both_read, second_missing}
use Rattle.cg_plan.specs.Forms.{LeadsAs}
use Rattle.cg_plan.proofs.named.plan_in.Goals as goal

pub returns-in_err-to-clause-syntax : goal.returns-in_err-to-clause-syntax
returns-in_err-to-clause-syntax g c = λ e.
    second_missing (pending c.args.first.now) (pending c.read_world.new.reader) c.args.second.now c.in_ok-from.from c.in_ok-from.ensures.value
    (c.in_err-to.ensures.syntax (search rules))

pub returns-clause-value : goal.returns-clause-value
returns-clause-value g c =
    IfSome_then c.in_ok-plan_as.field-0 c.in_ok-plan_as.ensures
    (λ text held. both_read (LeadsAs c.args.form text.items) (pending c.args.first.now) (pending c.read_world.new.reader) c.args.second.now c.in_ok-from.from c.in_ok-to.to
    c.in_ok-from.ensures.value c.in_ok-to.ensures.value held)
