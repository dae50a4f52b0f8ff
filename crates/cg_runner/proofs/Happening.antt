-- The calls of each run stand in the history.
use Rattle.std.proofs.Common.{◌≡◌, List, [], ◌∷◌, ◌++◌, refl, sym, ap, ◌∙◌}
use Rattle.std.proofs.lemmas.List.{append_assoc}
use Rattle.std.specs.List.{AllByRecursion, AllZip}
use Rattle.cg_model.specs.Cgroups.{cgroups}
use Rattle.cg_model.specs.History.{History}
use Rattle.cg_log.specs.Call.{Call, SessionState, calls_of}
use Rattle.cg_runner.specs.EndOf.{joined}
use Rattle.cg_runner.specs.Happened.{CommittedAreWhole, EachHasHappened, HasCalls, HasHappened}
use Rattle.cg_runner.specs.Runs.{calls_in, Run}
use Rattle.cg_runner.proofs.Each.{each_append, each_weaker}
use Rattle.cg_runner.proofs.Telling.{all_ends}

abbrev StandsIn : List Call → Run → Type 0
StandsIn calls run = (before : List Call) × (later : List Call) × (calls ≡ before ++ run.calls ++ later)

behind : (first : List Call) (calls : List Call) (run : Run) → StandsIn calls run → StandsIn (first ++ calls) run
behind first calls run (before, later, is) = (
  first ++ before,
  later,
  ap (λ l. first ++ l) is ∙ sym (append_assoc first (before ++ run.calls) later) ∙ ap (λ l. l ++ later) (sym (append_assoc first before run.calls)),
)

each_stands : (own : List Run) → AllByRecursion (StandsIn (calls_in own)) own
each_stands [] = tt
each_stands (run ∷ own) =
    (([], calls_in own, refl), each_weaker (StandsIn (calls_in own)) (StandsIn (calls_in (run ∷ own))) own (behind run.calls (calls_in own)) (each_stands own))

all_stand : (h : History cgroups) (sessions : List SessionState) (runs : List (List Run)) → AllZip (λ session own. session.log ≡ calls_in own) sessions runs
    → AllByRecursion (λ session. session.log ≡ calls_of session.number h) sessions → AllByRecursion (λ run. HasCalls h run.calls) (joined runs)
all_stand h [] [] logs audited = tt
all_stand h [] (own ∷ runs) logs audited = absurd logs
all_stand h (session ∷ sessions) [] logs audited = absurd logs
all_stand h (session ∷ sessions) (own ∷ runs) logs audited =
    let same : calls_of session.number h ≡ calls_in own = sym audited.0 ∙ logs.0 in
    each_append (λ run. HasCalls h run.calls) own (joined runs)
    (each_weaker (StandsIn (calls_in own)) (λ run. HasCalls h run.calls) own (λ run (before, later, is). (session.number, before, later, same ∙ is)) (each_stands own))
    (all_stand h sessions runs logs.1 audited.1)

pub each_has_happened : EachHasHappened
each_has_happened workers tries scripts told h (sessions, as_many, handed, audited, are) =
    all_ends tries scripts told sessions are (λ run. HasCalls h run.calls) (HasHappened h) (all_stand h sessions are.runs are.logs audited.logs)
    (λ run one stands. (run.calls, stands, one.by_calls))

pub committed_are_whole : CommittedAreWhole
committed_are_whole h script number tries (calls, (session, before, later, is), by) = (
  by.last,
  (
    session,
    before ++ by.vain,
    later,
    is ∙ ap (λ l. before ++ l ++ later) by.calls_are ∙ ap (λ l. l ++ later) (sym (append_assoc before by.vain by.last)),
  ),
  by.ends.1,
)
