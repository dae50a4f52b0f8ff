use Rattle.std.proofs.lemmas.Result.{IfOk-weaker}
use Rattle.cg_lines.specs.Lines.{pending}
use Rattle.cg_program.proofs.NamedLemmas.{done_named}
use Rattle.cg_diff.specs.DifferenceOf.{HoldsWith, IsTold}
use Rattle.cg_diff.proofs.TwoWorlds.{none_named}
use Rattle.cg_diff.proofs.named.difference_of.Goals as goal

pub returns-clause-value : goal.returns-clause-value
returns-clause-value g c =
    IfOk-weaker c.difference_in.result _ _
    (λ text held. done_named (HoldsWith (IsTold text.items)) (g.P.Inputs.standard c.args.inputs.now) (g.P.Inputs.file c.args.inputs.now) c.args.before.now c.args.after.now
    (pending c.in_ok-first.first) c.in_ok-first.second c.in_ok-first.ensures.world c.in_ok-first.ensures.schedule held)
    c.difference_in.ensures.value

pub returns-clause-syntax : goal.returns-clause-syntax
returns-clause-syntax g c = λ e.
    none_named (g.P.Inputs.standard c.args.inputs.now) (g.P.Inputs.file c.args.inputs.now) c.args.before.now c.args.after.now
    (pending c.in_ok-first.first) c.in_ok-first.second c.in_ok-first.ensures.world c.in_ok-first.ensures.schedule (c.difference_in.ensures.syntax e)
