-- How a script's end follows from the calls that were made for it.
use Rattle.std.specs.Prelude.{◌≡◌, ◌⊎◌, ℕ, ◌+◌, ◌-◌, Bool, true, false, List, [], ◌∷◌, ◌++◌, length, map}
use Rattle.std.specs.List.{AllByRecursion, AllZip, flat_map}
use Rattle.cg_name.specs.declared.refusal.Refusal.{Refusal}
use Rattle.cg_name.specs.declared.refusal.Refusal.TheVariants as refusals
use Rattle.cg_name.specs.declared.refusal.TxnNumber.{TxnNumber}
use Rattle.cg_model.specs.Cgroups.{cgroups}
use Rattle.cg_model.specs.History.{Request, Begin, Commit, Abort, Answer, Begun, Committed, Aborted, Refused}
use Rattle.cg_history.specs.Meaning.{request_of}
use Rattle.cg_log.specs.Call.{Call, logged}
use Rattle.cg_desk.specs.Replies.{may_meet}
use Rattle.cg_script.specs.declared.script.Script.{Script}
use Rattle.cg_runner.specs.End.{tries_of}
use Rattle.cg_runner.specs.declared.end.ScriptEnd.{ScriptEnd}
use Rattle.cg_runner.specs.declared.end.ScriptEnd.TheVariants as ends

abbrev pub call : Request cgroups → Answer → Call
call r a = record { request = r; answer = a }

abbrev pub IsAccepted : Answer → Type 0
IsAccepted (Refused e) = ⊥
IsAccepted _ = Unit {0}

-- the calls ask for these requests, in order, and each is accepted
abbrev pub AreAccepted : List (Request cgroups) → List Call → Type 0
AreAccepted requests calls = AllZip (λ r c. (c.request ≡ r) × IsAccepted c.answer) requests calls

-- a transaction: its begin, what is asked for in it, and the call that ends it
abbrev pub transaction_of : ℕ → List Call → Call → List Call
transaction_of t asked last = call Begin (Begun t) ∷ (asked ++ last ∷ [])

-- a transaction of just these requests, each of them accepted, and ended so
abbrev pub IsWhole : List (Request cgroups) → Request cgroups → (ℕ → Answer) → List Call → Type 0
IsWhole requests r a calls =
    (t : ℕ) × (asked : List Call) × AreAccepted requests asked × (calls ≡ transaction_of t asked (call r (a t)))

-- a request is refused by what it may meet, or for want of memory for a copy of it
abbrev pub MayRefuse : Request cgroups → Refusal → Type 0
MayRefuse r e = (may_meet r e ≡ true) ⊎ (e ≡ refusals.Memory)

-- the request at this line is refused by e, the first being line 1: those before it are accepted, and none behind it is asked for
pub record IsRefused (requests : List (Request cgroups)) (line : ℕ) (e : Refusal) (calls : List Call) : Type 0 where
  pub before : List (Request cgroups)
  pub refused : Request cgroups
  pub behind : List (Request cgroups)
  pub asked : List Call
  pub requests_are : requests ≡ before ++ refused ∷ behind
  pub line_is : line ≡ length before + 1
  pub accepted : AreAccepted before asked
  pub may : MayRefuse refused e
  -- the refusal has a call where it is one to be recorded
  pub calls_are : calls ≡ logged asked refused (Refused e)

-- a transaction that is refused so, and aborted
abbrev pub IsStopped : List (Request cgroups) → ℕ → Refusal → List Call → Type 0
IsStopped requests line e calls =
    (t : ℕ) × (asked : List Call) × IsRefused requests line e asked × (calls ≡ transaction_of t asked (call Abort (Aborted t)))

-- a try in vain: another transaction was in the way of one of the requests
abbrev pub IsVain : List (Request cgroups) → List Call → Type 0
IsVain requests calls = (line : ℕ) × (other : TxnNumber) × IsStopped requests line (refusals.Busy other) calls

-- nothing was begun
abbrev pub IsNotBegun : ℕ → Refusal → List Call → Type 0
IsNotBegun line e calls = (line ≡ 0) × (calls ≡ []) × ((e ≡ refusals.AlreadyOpen) ⊎ (e ≡ refusals.Full) ⊎ (e ≡ refusals.Memory))

-- all requests were accepted, and then the transaction was lost: no call ended it
abbrev pub IsNotEnded : List (Request cgroups) → ℕ → Refusal → List Call → Type 0
IsNotEnded requests line e calls =
    (line ≡ length requests + 1) × (e ≡ refusals.Lost) × ((t : ℕ) × (asked : List Call) × AreAccepted requests asked × (calls ≡ call Begin (Begun t) ∷ asked))

abbrev pub is_busy : Refusal → Bool
is_busy (refusals.Busy t) = true
is_busy _ = false

-- the script fails at the line by e: at its begin, at one of its requests, or behind them; and no other transaction is in the way
abbrev pub IsFailed : List (Request cgroups) → ℕ → Refusal → List Call → Type 0
IsFailed requests line e calls =
    (is_busy e ≡ false) × (IsNotBegun line e calls ⊎ IsStopped requests line e calls ⊎ IsNotEnded requests line e calls)

-- these are the calls of the last try of a script that ends so; of one that gave up it was in vain too: that transaction was in the way
-- of the request at that line
abbrev pub EndsBy : List (Request cgroups) → Bool → ScriptEnd → List Call → Type 0
EndsBy requests aborts (ends.Committed number tries) calls = (aborts ≡ false) × IsWhole requests Commit (λ t. Committed number) calls
EndsBy requests aborts (ends.Aborted tries) calls = (aborts ≡ true) × IsWhole requests Abort Aborted calls
EndsBy requests aborts (ends.Failed line refusal tries) calls = IsFailed requests line refusal calls
EndsBy requests aborts (ends.GaveUp line holder tries) calls = IsStopped requests line (refusals.Busy holder) calls

-- what the script asks for
abbrev pub requests_of : Script → List (Request cgroups)
requests_of script = map request_of script.requests.items

-- these lists, one behind the other
abbrev pub joined : {A : Type 0} → List (List A) → List A
joined parts = flat_map (λ part. part) parts

-- so many tries in vain, one after another
pub record AreVain (requests : List (Request cgroups)) (tries : ℕ) (calls : List Call) : Type 0 where
  pub parts : List (List Call)
  pub count : length parts ≡ tries
  pub each : AllByRecursion (IsVain requests) parts
  pub calls_are : calls ≡ joined parts

-- the script ended so by just these calls: all tries but the last were in vain, and by the last it ended so
pub record IsEndOf (script : Script) (calls : List Call) (end : ScriptEnd) : Type 0 where
  pub vain : List Call
  pub last : List Call
  pub calls_are : calls ≡ vain ++ last
  pub tries : AreVain (requests_of script) (tries_of end - 1) vain
  pub ends : EndsBy (requests_of script) script.aborts end last
