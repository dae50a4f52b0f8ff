-- Requests that are asked for in a transaction, up to one that is refused.
use Rattle.std.proofs.Common.{◌≡◌, ℕ, suc, ◌+◌, ◌<◌, List, [], ◌∷◌, ◌++◌, length, map, take, drop, get_or, refl, sym, ap, subst, ◌∙◌, add-one, arith}
use Rattle.std.proofs.lemmas.List.{map-append, take-append-drop, length-map, length-take-le}
use Rattle.std.proofs.lemmas.Slice.Zip.{all_zipped_more}
use Rattle.std.proofs.Math.Seq.{drop-cons}
use Rattle.cg_name.specs.declared.refusal.Refusal.{Refusal}
use Rattle.cg_model.specs.Cgroups.{cgroups}
use Rattle.cg_model.specs.History.{Request, Refused}
use Rattle.cg_history.specs.Meaning.{request_of}
use Rattle.cg_history.specs.declared.record.Request as code
use Rattle.cg_log.specs.Call.{Call, SessionState, after_call, logged}
use Rattle.cg_runner.specs.EndOf.{call, AreAccepted, IsAccepted, IsRefused, MayRefuse}
use Rattle.cg_runner.specs.Trying.{Asked, Made}
use Rattle.cg_runner.proofs.Each.{take_item}
use Rattle.cg_runner.proofs.Made.{made_after, made_more}

-- the session asked for the first n of these, and each was accepted
abbrev pub AskedFor : ℕ → List code.Request → SessionState → SessionState → Type 0
AskedFor n rs s u = (calls : List Call) × AreAccepted (map request_of (take n rs)) calls × Made s u calls

first_more : (rs : List code.Request) (n : ℕ) (x : code.Request) → n < length rs → x ≡ get_or rs n x
    → map request_of (take (n + 1) rs) ≡ map request_of (take n rs) ++ request_of x ∷ []
first_more rs n x inside at =
    ap (λ l. map request_of l) (take_item rs n x inside at) ∙ map-append request_of (take n rs) (x ∷ [])

pub asked_more : (rs : List code.Request) (n : ℕ) (x : code.Request) (s t u : SessionState)
    → n < length rs → x ≡ get_or rs n x → AskedFor n rs s t → Asked t u (request_of x) → AskedFor (n + 1) rs s u
asked_more rs n x s t u inside at (calls, accepted, made) (a, is, last) =
    let R : Request cgroups → Call → Type 0 = λ r c. (c.request ≡ r) × IsAccepted c.answer in
    let more : AreAccepted (map request_of (take n rs) ++ request_of x ∷ []) (calls ++ call (request_of x) a ∷ []) =
    all_zipped_more R (map request_of (take n rs)) calls (request_of x) (call (request_of x) a) accepted (refl, is) in (
      calls ++ call (request_of x) a ∷ [],
      subst (λ l. AreAccepted l (calls ++ call (request_of x) a ∷ [])) (sym (first_more rs n x inside at)) more,
      made_more s t u calls (call (request_of x) a ∷ []) made last,
    )

parted : (rs : List code.Request) (n : ℕ) (x : code.Request) → n < length rs → x ≡ get_or rs n x
    → map request_of rs ≡ map request_of (take n rs) ++ request_of x ∷ map request_of (drop (n + 1) rs)
parted rs n x inside at =
    ap (λ l. map request_of l) (sym (take-append-drop n rs))
    ∙ map-append request_of (take n rs) (drop n rs)
    ∙ ap (λ l. map request_of (take n rs) ++ map request_of l) (drop-cons rs n x inside)
    ∙ ap (λ (y : code.Request). map request_of (take n rs) ++ request_of y ∷ map request_of (drop (suc n) rs)) (sym at)
    ∙ ap (λ k. map request_of (take n rs) ++ request_of x ∷ map request_of (drop k rs)) (sym (add-one n))

pub asked_in_vain : (rs : List code.Request) (n : ℕ) (x : code.Request) (s t u : SessionState) (e : Refusal)
    → n < length rs → x ≡ get_or rs n x → AskedFor n rs s t → MayRefuse (request_of x) e → u ≡ after_call t (request_of x) (Refused e)
    → (calls : List Call) × IsRefused (map request_of rs) (n + 1) e calls × Made s u calls
asked_in_vain rs n x s t u e inside at (calls, accepted, made) may last = (
  logged calls (request_of x) (Refused e),
  record {
    before = map request_of (take n rs);
    refused = request_of x;
    behind = map request_of (drop (n + 1) rs);
    asked = calls;
    requests_are = parted rs n x inside at;
    line_is = ap (λ k. k + 1) (sym (length-map (take n rs) request_of ∙ length-take-le n rs (omega arith)));
    accepted = accepted;
    may = may;
    calls_are = refl;
  },
  made_after s t u calls (request_of x) (Refused e) made last,
)
