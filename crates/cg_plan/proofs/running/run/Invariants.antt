use Rattle.std.specs.Prelude.{◌++◌, ◌∷◌, [], map}
use Rattle.cg_core.specs.State.{machine}
use Rattle.cg_history.specs.Meaning.{request_of}
use Rattle.cg_model.specs.Cgroups.{cgroups}
use Rattle.cg_model.specs.History.{Commit}
use Rattle.cg_model.specs.Machine.{Machine, opened}
use Rattle.cg_plan.specs.Leads.{in_transaction, AcceptsAll}
use Rattle.cg_plan.proofs.running.run.Given as goal

-- where the machine accepts the requests that are left, all of them are accepted
abbrev pub invariant-loop-request : goal.invariant-loop-request
invariant-loop-request l =
    (end : Machine cgroups) → AcceptsAll (machine l.core) (map request_of l.request-iterator.rest.items ++ Commit ∷ []) end
    → AcceptsAll (opened cgroups l.fn.from 1048576) (in_transaction (map request_of l.fn.requests.items)) end
