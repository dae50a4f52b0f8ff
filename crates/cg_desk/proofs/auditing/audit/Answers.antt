-- What was tested is what the definition says.
use Rattle.std.proofs.Common.{◌≡◌, ◌∙◌, length, sym, ap, subst₂}
use Rattle.std.proofs.lemmas.Bool.{false≢true}
use Rattle.cg_history.proofs.Records.{same_length}
use Rattle.cg_log.specs.Call.{calls_of}
use Rattle.cg_log.specs.Rests.{total, AreCallsOf}
use Rattle.cg_log.proofs.Comparing.{all_rests, all_sessions}
use Rattle.cg_desk.proofs.Counting.{sum_by-rests}
use Rattle.cg_desk.proofs.auditing.audit.Goals as goal

pub all_are_in-requires-clause-as_many : goal.all_are_in-requires-clause-as_many
all_are_in-requires-clause-as_many c =
    ap total c.in_ok-rests.ensures.logs ∙ sum_by-rests (λ x. length x.1) c.args.sessions.now ∙ c.lengths_add_up.ensures.0 c.if-not-lengths_add_up.false

pub returns-then-all_are_in-clause-agrees : goal.returns-then-all_are_in-clause-agrees
returns-then-all_are_in-clause-agrees c =
    let h = c.args.core.now.history in
    record {
      numbers = c.in_ok-rests.ensures.numbers;
      logs = all_sessions (λ x. x.1 ≡ calls_of x.0 h) c.args.sessions.now
          (subst₂ AreCallsOf c.history-records.ensures c.in_ok-rests.ensures.logs (c.all_are_in.ensures.0 c.if-all_are_in.true));
      lengths = c.lengths_add_up.ensures.0 c.if-not-lengths_add_up.false ∙ sym (same_length c.history-records.result.now) ∙ ap length c.history-records.ensures;
      ended = c.has_ended.ensures.0 c.if-not-has_ended.false;
    }

pub returns-clause-disagrees : goal.returns-clause-disagrees
returns-clause-disagrees c = λ _ a.
    let h = c.args.core.now.history in
    false≢true (sym c.if-all_are_in.false
    ∙ c.all_are_in.ensures.1 (subst₂ AreCallsOf (sym c.history-records.ensures) (sym c.in_ok-rests.ensures.logs) (all_rests (λ x. x.1 ≡ calls_of x.0 h) c.args.sessions.now a.logs)))
