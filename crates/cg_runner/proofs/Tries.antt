-- Tries of a script, one after another.
use Rattle.std.proofs.Common.{◌≡◌, ℕ, ◌+◌, ◌-◌, ◌≤◌, Bool, false, Result, Ok, Err, IfOk, List, [], ◌∷◌, ◌++◌, length, inl, inr, refl, ap, sym, subst, ◌∙◌, arith}
use Rattle.std.proofs.lemmas.List.{flat_map_more, length-append, length-map}
use Rattle.cg_log.specs.Call.{after_call, Call, SessionState}
use Rattle.cg_model.specs.Cgroups.{cgroups}
use Rattle.cg_history.specs.Meaning.{request_of}
use Rattle.cg_model.specs.History.{Request, Begin, Abort, Begun, Aborted}
use Rattle.cg_name.specs.declared.refusal.Refusal.{Refusal}
use Rattle.cg_name.specs.declared.refusal.Refusal.TheVariants as refusals
use Rattle.cg_name.specs.declared.refusal.TxnNumber.{TxnNumber}
use Rattle.cg_script.specs.declared.script.Script.{Script}
use Rattle.cg_runner.specs.End.{tries_of, CanEnd, Fits, UsesAll}
use Rattle.cg_runner.specs.EndOf.{call, is_busy, requests_of, transaction_of, EndsBy, IsRefused, IsStopped, IsVain}
use Rattle.cg_runner.specs.Trying.{EndsAt, Made, Ran, TriedInVain, TriedLast, TriedSoOften}
use Rattle.cg_runner.specs.declared.end.ScriptEnd.{ScriptEnd}
use Rattle.cg_runner.specs.declared.end.ScriptEnd.TheVariants as ends
use Rattle.cg_runner.specs.declared.fault.RunFault.{RunFault}
use Rattle.cg_runner.proofs.Each.{each_append}
use Rattle.cg_runner.proofs.Made.{made_more}

pub tried_again : (script : Script) (n : ℕ) (s t u : SessionState) → TriedSoOften script n s t → TriedInVain script t u → TriedSoOften script (n + 1) s u
tried_again script n s t u (calls, made, vain) (more, last, is) = (
  calls ++ more,
  made_more s t u calls more made last,
  record {
    parts = vain.parts ++ more ∷ [];
    count = length-append vain.parts (more ∷ []) ∙ ap (λ k. k + 1) vain.count;
    each = each_append (IsVain (requests_of script)) vain.parts (more ∷ []) vain.each (is, tt);
    calls_are = ap (λ l. l ++ more) vain.calls_are ∙ flat_map_more (λ (part : List Call). part) [] vain.parts more;
  },
)

-- the last try behind those in vain
pub ran_so : (script : Script) (end : ScriptEnd) (s t u : SessionState) → TriedSoOften script (tries_of end - 1) s t → TriedLast script t u end → Ran script s u end
ran_so script end s t u (calls, made, vain) (last, more, ends) =
    (calls ++ last, made_more s t u calls last made more, record { vain = calls; last = last; calls_are = refl; tries = vain; ends = ends })

-- a transaction that is stopped at a line ends the script so
pub ended_at : (requests : List (Request cgroups)) (aborts : Bool) (line : ℕ) (e : Refusal) (end : ScriptEnd) (calls : List Call)
    → EndsAt line e end → IsStopped requests line e calls → EndsBy requests aborts end calls
ended_at requests aborts line e (ends.Committed number tries) calls at stopped = absurd at
ended_at requests aborts line e (ends.Aborted tries) calls at stopped = absurd at
ended_at requests aborts line e (ends.Failed there refusal tries) calls (same, is, other) stopped =
    (subst (λ f. is_busy f ≡ false) (sym is) other, inr (inl (subst (λ n. IsStopped requests n refusal calls) (sym same) (subst (λ f. IsStopped requests line f calls) (sym is) stopped))))
ended_at requests aborts line e (ends.GaveUp there holder tries) calls (same, is) stopped =
    subst (λ n. IsStopped requests n (refusals.Busy holder) calls) (sym same) (subst (λ f. IsStopped requests line f calls) is stopped)

-- the line that is refused is that of a request
refused_within : (requests : List (Request cgroups)) (line : ℕ) (e : Refusal) (calls : List Call) → IsRefused requests line e calls → (1 ≤ line) × (line ≤ length requests)
refused_within requests line e calls h =
    let whole : length requests ≡ length h.before + length (h.refused ∷ h.behind) = ap length h.requests_are ∙ length-append h.before (h.refused ∷ h.behind) in
    let at : line ≡ length h.before + 1 = h.line_is in
    (omega (arith, at), omega (arith, whole, at))

-- how a script ends by its calls it can end
pub fits_by : (requests : List (Request cgroups)) (aborts : Bool) (end : ScriptEnd) (calls : List Call) → EndsBy requests aborts end calls → Fits (length requests) aborts end
fits_by requests aborts (ends.Committed number tries) calls h = h.0
fits_by requests aborts (ends.Aborted tries) calls h = h.0
fits_by requests aborts (ends.Failed line refusal tries) calls (other, inl not_begun) = let at : line ≡ 0 = not_begun.0 in omega (arith, at)
fits_by requests aborts (ends.Failed line refusal tries) calls (other, inr (inl (t, asked, refused, is))) =
    let within : line ≤ length requests = (refused_within requests line refusal asked refused).1 in omega (arith, within)
fits_by requests aborts (ends.Failed line refusal tries) calls (other, inr (inr not_ended)) = let at : line ≡ length requests + 1 = not_ended.0 in omega (arith, at)
fits_by requests aborts (ends.GaveUp line holder tries) calls (t, asked, refused, is) = refused_within requests line (refusals.Busy holder) asked refused

-- a try that is stopped at a line
tried_to_stop : (script : Script) (line n : ℕ) (e : Refusal) (end : ScriptEnd) (asked : List Call) (s t u v : SessionState)
    → EndsAt line e end → IsRefused (requests_of script) line e asked → Made s t (call Begin (Begun n) ∷ []) → Made t u asked → Made u v (call Abort (Aborted n) ∷ [])
    → TriedLast script s v end
tried_to_stop script line n e end asked s t u v at refused begun made aborted = (
  transaction_of n asked (call Abort (Aborted n)),
  made_more s t v (call Begin (Begun n) ∷ []) (asked ++ call Abort (Aborted n) ∷ []) begun (made_more t u v asked (call Abort (Aborted n) ∷ []) made aborted),
  ended_at (requests_of script) script.aborts line e end (transaction_of n asked (call Abort (Aborted n))) at (n, asked, refused, refl),
)

-- the same, from what its calls are answered
pub stopped_so : (script : Script) (requests : List (Request cgroups)) (line n m k : ℕ) (e : Refusal) (end : ScriptEnd) (s t u v : SessionState)
    → requests ≡ requests_of script → m ≡ n → k ≡ m → t ≡ after_call s Begin (Begun n) → ((asked : List Call) × IsRefused requests line e asked × Made t u asked)
    → v ≡ after_call u Abort (Aborted k) → EndsAt line e end → TriedLast script s v end
stopped_so script requests line n m k e end s t u v whole same named begun (asked, refused, made) aborted at =
    tried_to_stop script line n e end asked s t u v at (subst (λ rs. IsRefused rs line e asked) whole refused) begun made
    (subst (λ j. Made u v (call Abort (Aborted j) ∷ [])) (named ∙ same) aborted)

-- a script that gave up by its try of number n may be begun anew: that was one more in vain
pub vain_so_far : (script : Script) (n line tries : ℕ) (holder : TxnNumber) (s t u : SessionState)
    → 1 ≤ n → TriedSoOften script (n - 1) s t → TriedLast script t u (ends.GaveUp line holder tries) → (1 ≤ n + 1) × TriedSoOften script (n + 1 - 1) s u
vain_so_far script n line tries holder s t u some before (calls, made, stopped) =
    let same : n - 1 + 1 ≡ n + 1 - 1 = omega (arith, some) in
    (omega arith, subst (λ k. TriedSoOften script k s u) same (tried_again script (n - 1) s t u before (calls, made, (line, holder, stopped))))

-- a script that ended so by its last try can end so
pub can_end : (script : Script) (end : ScriptEnd) (tries : ℕ) (t u : SessionState)
    → 1 ≤ tries_of end → tries_of end ≤ tries → UsesAll tries end → TriedLast script t u end → CanEnd tries script end
can_end script end tries t u some most uses (calls, made, ends) = record {
  begun = some;
  bounded = most;
  used = uses;
  fits = subst (λ n. Fits n script.aborts end) (length-map script.requests.items request_of ∙ sym script.requests.ok.0)
      (fits_by (requests_of script) script.aborts end calls ends);
}

-- one that didn't give up need not have used all its tries, and one that was begun so often has
pub not_given_up : (tries : ℕ) (end : ScriptEnd) → ((line : ℕ) (holder : TxnNumber) (used : ℕ) → end ≡ ends.GaveUp line holder used → ⊥) → UsesAll tries end
not_given_up tries (ends.Committed number used) differs = tt
not_given_up tries (ends.Aborted used) differs = tt
not_given_up tries (ends.Failed line refusal used) differs = tt
not_given_up tries (ends.GaveUp line holder used) differs = absurd (differs line holder used refl)

all_used : (tries : ℕ) (end : ScriptEnd) → tries_of end ≡ tries → UsesAll tries end
all_used tries (ends.Committed number used) e = tt
all_used tries (ends.Aborted used) e = tt
all_used tries (ends.Failed line refusal used) e = tt
all_used tries (ends.GaveUp line holder used) e = e

-- the last of all tries
pub last_can_end : (script : Script) (tries : ℕ) (t u : SessionState) (r : Result ScriptEnd RunFault)
    → 1 ≤ tries → IfOk r (λ end. tries_of end ≡ tries) → IfOk r (TriedLast script t u) → IfOk r (CanEnd tries script)
last_can_end script tries t u (Ok end) some is last =
    can_end script end tries t u (subst (λ n. 1 ≤ n) (sym is) some) (subst (λ n. n ≤ tries) (sym is) (omega arith)) (all_used tries end is) last
last_can_end script tries t u (Err e) some is last = tt

pub last_ran : (script : Script) (tries n : ℕ) (s t u : SessionState) (r : Result ScriptEnd RunFault)
    → n ≡ tries → TriedSoOften script (n - 1) s t → IfOk r (λ end. tries_of end ≡ tries) → IfOk r (TriedLast script t u) → IfOk r (Ran script s u)
last_ran script tries n s t u (Ok end) all before is last = ran_so script end s t u (subst (λ k. TriedSoOften script (k - 1) s t) (all ∙ sym is) before) last
last_ran script tries n s t u (Err e) all before is last = tt
