use Rattle.std.proofs.Common.{◌+◌, List, map, ap, sym, subst, ◌∙◌}
use Rattle.cg_desk.specs.Transactions.{session_of}
use Rattle.cg_history.specs.Meaning.{request_of}
use Rattle.cg_log.specs.Call.{Call}
use Rattle.cg_runner.specs.EndOf.{IsRefused}
use Rattle.cg_runner.specs.Trying.{Made}
use Rattle.cg_runner.proofs.Asking.{asked_in_vain, asked_more}
use Rattle.cg_runner.proofs.trying.ask_all.Goals as goal

pub returns-in-Some-clause-refused : goal.returns-in-Some-clause-refused
returns-in-Some-clause-refused g c =
    subst
    (λ line. (calls : List Call) × IsRefused (map request_of c.args.requests.now) (line + 1) c.in-Some.refusal calls
    × Made (session_of c.args.transaction.now) (session_of c.ask.new.transaction) calls)
    (sym c.loop-request.invariant.0)
    (asked_in_vain c.args.requests.now c.loop-request.request-index c.request-item.result (session_of c.args.transaction.now)
    (session_of c.loop-request.transaction) (session_of c.ask.new.transaction) c.in-Some.refusal c.loop-request-test.true c.request-item.is
    c.loop-request.invariant.2 c.in-Some.ensures.may c.in-Some.ensures.refused)

pub loop-request-preserved : goal.loop-request-preserved
loop-request-preserved g c = (
  ap (λ line. line + 1) c.loop-request.invariant.0,
  (c.in_default.ensures.same.0 ∙ c.loop-request.invariant.1.0, c.in_default.ensures.same.1 ∙ c.loop-request.invariant.1.1),
  asked_more c.args.requests.now c.loop-request.request-index c.request-item.result (session_of c.args.transaction.now)
      (session_of c.loop-request.transaction) (session_of c.ask.new.transaction) c.loop-request-test.true c.request-item.is
      c.loop-request.invariant.2 c.in_default.ensures.accepted,
)
