use Rattle.std.proofs.Common.{◌≡◌, ◌++◌, List, map, take}
use Rattle.std.specs.List.{flat_map}
use Rattle.cg_history.specs.Meaning.{request_of}
use Rattle.cg_model.specs.Command.{Command}
use Rattle.cg_plan.specs.Leads.{asked_for}
use Rattle.cg_plan.specs.Shell.{shell_head, shell_line}
use Rattle.cg_plan.proofs.shell.shell_text.Given as goal

-- the requests so far are commands, and their lines are written
abbrev pub invariant-loop-request : goal.invariant-loop-request
invariant-loop-request l =
    (commands : List Command) × (map request_of (take l.request-index l.request-items) ≡ map asked_for commands) × (l.text.items ≡ shell_head ++ flat_map (shell_line l.root) commands)
