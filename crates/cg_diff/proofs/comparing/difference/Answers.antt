use Rattle.std.proofs.Common.{◌++◌, ap, ◌∙◌}
use Rattle.cg_name.proofs.Growing.{first, more}
use Rattle.cg_diff.specs.Difference.{controllers_change, difference_text, groups_changes, online_change, processes_changes}
use Rattle.cg_diff.proofs.comparing.difference.Goals as goal

pub returns : goal.returns
unfolding difference_text
returns c =
    let A = c.args.before.now in
    let B = c.args.after.now in
    let computer = more (online_change A B) (first c.new-out.result.items (controllers_change A B) c.in_ok-append_controllers.ensures) c.in_ok-append_online.ensures in
    let all = more (processes_changes A B) (more (groups_changes A B) computer c.in_ok-append_groups.ensures) c.in_ok-append_processes.ensures in
    all.is ∙ ap (λ text. text ++ difference_text A B) c.new-out.ensures.items
