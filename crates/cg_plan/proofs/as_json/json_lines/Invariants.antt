use Rattle.std.proofs.Common.{◌≡◌, List, map, take}
use Rattle.cg_history.specs.Meaning.{request_of}
use Rattle.cg_model.specs.Command.{Command}
use Rattle.cg_plan.specs.Leads.{asked_for}
use Rattle.cg_plan.specs.PlanValue.{command_lines}
use Rattle.cg_plan.proofs.as_json.json_lines.Given as goal

-- the requests so far are commands, and their lines are written
abbrev pub invariant-loop-index : goal.invariant-loop-index
invariant-loop-index l = (commands : List Command) × (map request_of (take l.index l.request-items) ≡ map asked_for commands) × (l.text.items ≡ command_lines 1 commands)
