use Rattle.std.proofs.lemmas.Option.{IfSome_then}
use Rattle.std.proofs.lemmas.Result.{IfOk-weaker}
use Rattle.cg_lines.specs.Lines.{pending}
use Rattle.cg_program.proofs.NamedLemmas.{done_named}
use Rattle.cg_diff.proofs.TwoWorlds.{none_named}
use Rattle.cg_diff.specs.DifferenceOf.{HoldsWith}
use Rattle.cg_plan.specs.Forms.{LeadsAs}
use Rattle.cg_plan.proofs.named.plan_of.Goals as goal

pub returns-clause-value : goal.returns-clause-value
returns-clause-value g c =
    IfOk-weaker c.plan_in.result _ _
    (λ plan held. IfSome_then plan held
    (λ text led. done_named (HoldsWith (LeadsAs c.args.form text.items)) (g.P.Inputs.standard c.args.inputs.now) (g.P.Inputs.file c.args.inputs.now) c.args.from.now c.args.to.now
    (pending c.in_ok-first.first) c.in_ok-first.second c.in_ok-first.ensures.world c.in_ok-first.ensures.schedule led))
    c.plan_in.ensures.value

pub returns-clause-syntax : goal.returns-clause-syntax
returns-clause-syntax g c = λ e.
    none_named (g.P.Inputs.standard c.args.inputs.now) (g.P.Inputs.file c.args.inputs.now) c.args.from.now c.args.to.now
    (pending c.in_ok-first.first) c.in_ok-first.second c.in_ok-first.ensures.world c.in_ok-first.ensures.schedule (c.plan_in.ensures.syntax e)
