use Rattle.std.proofs.Common.{◌++◌, ◌∷◌, [], sym, ◌∙◌}
use Rattle.cg_command.specs.Meaning.{command_of}
use Rattle.cg_plan.proofs.ShellLines.{line_more, one_more}
use Rattle.cg_plan.proofs.shell.shell_text.Goals as goal

pub loop-request-preserved : goal.loop-request-preserved
loop-request-preserved c =
    let before = c.loop-request.invariant in
    let command = command_of c.in-Do.command in (
      before.0 ++ command ∷ [],
      one_more c.as_slice-request-items.result.now c.loop-request.request-index c.request-item.result c.in-Do.command before.0 c.loop-request-test.true
          (sym c.request-item.is ∙ c.in-Do.is) before.1,
      line_more c.args.root.now c.loop-request.text.items c.append_line.new.out.items command before.0 c.in_ok-append_line.ensures before.2,
    )
