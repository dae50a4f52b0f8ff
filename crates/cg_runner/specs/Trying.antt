-- One try of a script, step by step: what is said of the functions that make it.
use Rattle.std.specs.Prelude.{◌≡◌, ℕ, ◌+◌, Bool, true, false, List, [], ◌∷◌, ◌++◌}
use Rattle.cg_name.specs.declared.refusal.Refusal.{Refusal}
use Rattle.cg_name.specs.declared.refusal.Refusal.TheVariants as refusals
use Rattle.cg_model.specs.Cgroups.{cgroups}
use Rattle.cg_model.specs.History.{Request, Commit, Abort, Answer, Committed, Aborted}
use Rattle.cg_log.specs.Call.{Call, SessionState}
use Rattle.cg_script.specs.declared.script.Script.{Script}
use Rattle.cg_runner.specs.EndOf.{call, is_busy, requests_of, AreVain, EndsBy, IsAccepted, IsEndOf, IsVain}
use Rattle.cg_runner.specs.declared.end.ScriptEnd.{ScriptEnd}
use Rattle.cg_runner.specs.declared.end.ScriptEnd.TheVariants as ends

-- the session made these calls
abbrev pub Made : SessionState → SessionState → List Call → Type 0
Made old new calls = new ≡ record old { log = old.log ++ calls }

-- it asked for this, which was accepted
abbrev pub Asked : SessionState → SessionState → Request cgroups → Type 0
Asked old new r = (a : Answer) × IsAccepted a × Made old new (call r a ∷ [])

-- what ends a transaction
abbrev pub ending : Bool → Request cgroups
ending true = Abort
ending false = Commit

-- the call that ended transaction t of a script that ends so, behind all its requests; none where it was lost
abbrev pub ending_call : ℕ → ScriptEnd → List Call
ending_call t (ends.Committed number tries) = call Commit (Committed number) ∷ []
ending_call t (ends.Aborted tries) = call Abort (Aborted t) ∷ []
ending_call t _ = []

-- a script of so many requests, which aborts or not, can end so behind them, in its try of this number
abbrev pub CanEndBehind : ℕ → Bool → ℕ → ScriptEnd → Type 0
CanEndBehind requests aborts n (ends.Committed number tries) = (aborts ≡ false) × (tries ≡ n)
CanEndBehind requests aborts n (ends.Aborted tries) = (aborts ≡ true) × (tries ≡ n)
CanEndBehind requests aborts n (ends.Failed line refusal tries) = (line ≡ requests + 1) × (refusal ≡ refusals.Lost) × (tries ≡ n)
CanEndBehind requests aborts n (ends.GaveUp line holder tries) = ⊥

-- a script that is refused by e at a line of its last try ends so: it gave up where another transaction was in the way, and else failed
abbrev pub EndsAt : ℕ → Refusal → ScriptEnd → Type 0
EndsAt line e (ends.Failed at refusal tries) = (at ≡ line) × (refusal ≡ e) × (is_busy e ≡ false)
EndsAt line e (ends.GaveUp at holder tries) = (at ≡ line) × (e ≡ refusals.Busy holder)
EndsAt line e _ = ⊥

-- the session made the calls of a try in vain
abbrev pub TriedInVain : Script → SessionState → SessionState → Type 0
TriedInVain script old new = (calls : List Call) × Made old new calls × IsVain (requests_of script) calls

-- the session made the calls of the last try of the script, which ends so
abbrev pub TriedLast : Script → SessionState → SessionState → ScriptEnd → Type 0
TriedLast script old new end = (calls : List Call) × Made old new calls × EndsBy (requests_of script) script.aborts end calls

-- the session made the calls of so many tries, all in vain
abbrev pub TriedSoOften : Script → ℕ → SessionState → SessionState → Type 0
TriedSoOften script tries old new = (calls : List Call) × Made old new calls × AreVain (requests_of script) tries calls

-- the session made the calls by which the script ended so, and no others
abbrev pub Ran : Script → SessionState → SessionState → ScriptEnd → Type 0
Ran script old new end = (calls : List Call) × Made old new calls × IsEndOf script calls end
