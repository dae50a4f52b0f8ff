use Rattle.std.proofs.Common.{ap₂, ◌∙◌, rules}
use Rattle.cg_lines.specs.Lines.{pending}
use Rattle.cg_diff.specs.Difference.{difference_text}
use Rattle.cg_diff.specs.DifferenceOf.{IsTold}
use Rattle.cg_diff.proofs.TwoWorlds.{both_read, second_missing}
use Rattle.cg_diff.proofs.named.difference_in.Goals as goal

pub returns-in_err-after-clause-syntax : goal.returns-in_err-after-clause-syntax
returns-in_err-after-clause-syntax g c = λ e.
    second_missing (pending c.args.first.now) (pending c.read_world.new.reader) c.args.second.now c.in_ok-before.before c.in_ok-before.ensures.value
    (c.in_err-after.ensures.syntax (search rules))

pub returns-clause-value : goal.returns-clause-value
returns-clause-value g c =
    both_read (IsTold c.in_ok-difference.field-0.items) (pending c.args.first.now) (pending c.read_world.new.reader) c.args.second.now c.in_ok-before.before c.in_ok-after.after
    c.in_ok-before.ensures.value c.in_ok-after.ensures.value (c.in_ok-difference.ensures ∙ ap₂ difference_text c.tree.ensures.value c.tree-2.ensures.value)
