-- Calls that a session made, one after another.
use Rattle.std.proofs.Common.{◌≡◌, Bool, true, false, cond, List, [], ◌∷◌, ◌++◌, refl, sym, ap, ◌∙◌}
use Rattle.std.proofs.lemmas.List.{append_assoc, append-nil}
use Rattle.cg_model.specs.Cgroups.{cgroups}
use Rattle.cg_model.specs.History.{Request, Answer, is_recorded}
use Rattle.cg_log.specs.Call.{Call, SessionState, logged, after_call}
use Rattle.cg_runner.specs.Trying.{Made}

pub made_none : (s u : SessionState) → u ≡ s → Made s u []
made_none s u e = e ∙ ap (λ l. record s { log = l }) (sym (append-nil s.log))

pub made_more : (s t u : SessionState) (xs ys : List Call) → Made s t xs → Made t u ys → Made s u (xs ++ ys)
made_more s t u xs ys e f = f ∙ ap (λ (v : SessionState). record v { log = v.log ++ ys }) e ∙ ap (λ l. record s { log = l }) (append_assoc s.log xs ys)

-- what is logged behind other calls
pub logged_behind : (l m : List Call) (r : Request cgroups) (a : Answer) → logged (l ++ m) r a ≡ l ++ logged m r a
logged_behind l m r a = at (is_recorded r a)
  where
    c : List Call
    c = record { request = r; answer = a } ∷ []

    at : (b : Bool) → cond b ((l ++ m) ++ c) (l ++ m) ≡ l ++ cond b (m ++ c) m
    at true = append_assoc l m c
    at false = refl

pub made_after : (s t u : SessionState) (xs : List Call) (r : Request cgroups) (a : Answer) → Made s t xs → u ≡ after_call t r a → Made s u (logged xs r a)
made_after s t u xs r a e f = f ∙ ap (λ (v : SessionState). after_call v r a) e ∙ ap (λ l. record s { log = l }) (logged_behind s.log xs r a)
