use Rattle.std.proofs.Common.{false, map, subst}
use Rattle.std.specs.Prelude.{IfSome}
use Rattle.std.proofs.lemmas.Result.{IfOk-weaker}
use Rattle.cg_core.specs.State.{machine}
use Rattle.cg_history.specs.Meaning.{request_of}
use Rattle.cg_model.specs.Cgroups.{cgroups}
use Rattle.cg_model.specs.Machine.{opened}
use Rattle.cg_script.specs.Script.{SpellsScript}
use Rattle.cg_plan.specs.Leads.{in_transaction, AcceptsAll}
use Rattle.cg_plan.proofs.running.leads.Goals as goal

pub returns-in-Some-2 : goal.returns-in-Some-2
returns-in-Some-2 c =
    IfOk-weaker c.has_tree.result _ _
    (λ yes tells e. record {
      requests = map request_of c.in-Some.requests.items;
      spelled = subst (λ read. IfSome read (λ requests. SpellsScript c.args.text.now (map request_of requests.items) false)) c.in-Some.is c.in_ok-requests.ensures;
      end = machine c.in-Some-2.core;
      accepted = subst (λ run. IfSome run (λ core. AcceptsAll (opened cgroups c.args.from.now 1048576) (in_transaction (map request_of c.in-Some.requests.items)) (machine core))) c.in-Some-2.is c.in_ok-core.ensures;
      leaves = tells e;
    })
    c.has_tree.ensures
