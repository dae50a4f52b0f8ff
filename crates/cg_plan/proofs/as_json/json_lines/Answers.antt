use Rattle.std.proofs.Common.{◌++◌, ◌∷◌, [], sym, ◌∙◌}
use Rattle.cg_command.specs.Meaning.{command_of}
use Rattle.cg_plan.proofs.JsonLines.{json_more}
use Rattle.cg_plan.proofs.ShellLines.{one_more}
use Rattle.cg_plan.proofs.as_json.json_lines.Goals as goal

pub loop-index-preserved : goal.loop-index-preserved
loop-index-preserved c =
    let before = c.loop-index.invariant in
    let command = command_of c.in-Do.command in
    let requests = c.deref-request-items.result.now in
    let i = c.loop-index.index in (
      before.0 ++ command ∷ [],
      one_more requests i c.request-item.result c.in-Do.command before.0 c.loop-index-test.true (sym c.request-item.is ∙ c.in-Do.is) before.1,
      json_more requests i before.0 command c.loop-index.text.items c.append_command.new.out.items c.loop-index-test.true before.1 c.in_ok-append_command.ensures before.2,
    )
