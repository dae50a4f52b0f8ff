use Rattle.std.proofs.Common.{ap, map, rules}
use Rattle.cg_desk.specs.Transactions.{session_of, txn_number}
use Rattle.cg_history.specs.Meaning.{request_of}
use Rattle.cg_name.specs.declared.refusal.TxnNumber.{TxnNumber}
use Rattle.cg_runner.proofs.Tries.{stopped_so}
use Rattle.cg_runner.proofs.trying.try_script.Goals.{in-Aborted, in_default}
use Rattle.cg_runner.proofs.trying.try_script.Goals as goal

-- a try that was stopped at a line, and aborted
pub returns-after-end-clause-last : goal.returns-after-end-clause-last
returns-after-end-clause-last g c =
    elim c.match-end.branch [
      | in-Aborted w ↦
          let last = stopped_so c.args.script.now (map request_of c.as_slice.result.now) c.in-Err-asked.stop.line (txn_number c.in-Ok.transaction)
          (txn_number c.ask_all-asked.new.transaction) w.in-Aborted.field-0.0 c.in-Err-asked.stop.refusal w.refused.result c.args.session.now
          (session_of c.in-Ok.transaction) (session_of c.ask_all-asked.new.transaction) _ (ap (map request_of) c.as_slice.ensures.value)
          (ap (λ (number : TxnNumber). number.0) c.in-Err-asked.ensures.same.1) w.in-Aborted.ensures.answers c.in-Ok.ensures.begun c.in-Err-asked.ensures.refused
          w.in-Aborted.ensures.logged w.refused.ensures.at in
          rw w.result-is (search rules)
      | in_default w ↦ rw w.result-is tt
    ]
