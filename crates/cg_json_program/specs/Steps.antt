-- What a line of a schedule is answered, as a machine with the names of its sessions does it; and the end.
use Rattle.std.specs.Prelude.{◌≡◌, ◌⊎◌, ◌-◌, ℕ, List, [], ◌∷◌, Option, Some, None, slice_get}
use Rattle.cg_core.specs.State.{CoreState, after, reply}
use Rattle.cg_history.specs.SessionMap.{oldest}
use Rattle.cg_json_program.specs.Report.{Said, Report, told_in}
use Rattle.cg_model.specs.Cgroups.{cgroups}
use Rattle.cg_model.specs.History.{Abort, Refused, Request}
use Rattle.cg_model.specs.Opens.{opens, transaction_in}
use Rattle.cg_name.specs.declared.refusal.Refusal.TheVariants.{Syntax}
use Rattle.cg_replay.specs.Replay.{Replay}
use Rattle.cg_script.specs.Request.{SpellsLine, request_text}
use Rattle.cg_script.specs.Turns.{IsOneTooMany, session_number, with_name}

-- ---- one line

-- what a session of this name, where it has one, is answered: the machine's answer, with the transaction
abbrev pub said_to : Option (List ℕ) → CoreState → ℕ → Request cgroups → Said
said_to name c k r = record { session = name; transaction = told_in (transaction_in k (opens c.history)) (reply c k r); answer = reply c k r }

abbrev pub told_asked : ℕ → List ℕ → CoreState → ℕ → Request cgroups → Report
told_asked i n c k r = record { line = Some i; request = Some (request_text r); said = said_to (Some n) c k r }

-- what is told of a line that is refused as it stands
abbrev pub told_bad : ℕ → Report
told_bad i = record { line = Some i; request = None; said = record { session = None; transaction = None; answer = Refused Syntax } }

-- A line says nothing, and nothing is told;
abbrev pub Skips : Replay → List ℕ → Option Report → Replay → Type 0
Skips s line told t = SpellsLine line None × (told ≡ None) × (t ≡ s)

-- or it is a session's request, and the machine answers;
abbrev pub AsksAs : Replay → ℕ → List ℕ → Request cgroups → ℕ → Option Report → Replay → Type 0
AsksAs s i n r k told t =
    (session_number s.names n ≡ Some k) × (told ≡ Some (told_asked i n s.core k r)) × (t ≡ record { names = with_name s.names n; core = after s.core k r })

abbrev pub Asks : Replay → ℕ → List ℕ → Option Report → Replay → Type 0
Asks s i line told t = (n : List ℕ) × (r : Request cgroups) × (k : ℕ) × SpellsLine line (Some (n, r)) × AsksAs s i n r k told t

-- or it is in the grammar only with a name too many, or not at all, and is refused.
abbrev pub Fails : Replay → ℕ → List ℕ → Option Report → Replay → Type 0
Fails s i line told t =
    ((call : Option (List ℕ × Request cgroups)) → SpellsLine line call → IsOneTooMany s.names call)
    × (told ≡ Some (told_bad i)) × (t ≡ s)

-- this is told of the line with this number, and another schedule is left
abbrev pub Steps : Replay → ℕ → List ℕ → Option Report → Replay → Type 0
Steps s i line told t = Skips s line told t ⊎ (Asks s i line told t ⊎ Fails s i line told t)

-- ---- the end

-- the session with this number aborts
abbrev pub aborted : Replay → ℕ → Replay
aborted s k = record s { core = after s.core k Abort }

abbrev pub said_end : Replay → ℕ → Said
said_end s k = said_to (slice_get s.names (k - 1)) s.core k Abort

-- what is told of that
abbrev pub told_end : Replay → ℕ → Report
told_end s k = record { line = None; request = None; said = said_end s k }

-- the open transaction with the least number aborts, then that with the least of those left, and so on, and these are told
abbrev pub Aborts : Replay → List Report → Replay → Type 0
Aborts s [] t = t ≡ s
Aborts s (x ∷ told) t = (k : ℕ) × (oldest (opens s.core.history) ≡ Some k) × (x ≡ told_end s k) × Aborts (aborted s k) told t

-- none is open
abbrev pub HasNoneOpen : Replay → Type 0
HasNoneOpen s = oldest (opens s.core.history) ≡ None

-- ---- for private clauses

-- a session's request is answered, or its name is one too many
abbrev pub Asked : Replay → List ℕ → Request cgroups → Option Said → Replay → Type 0
Asked s n r said t =
    ((k : ℕ) × (session_number s.names n ≡ Some k) × (said ≡ Some (said_to (Some n) s.core k r)) × (t ≡ record { names = with_name s.names n; core = after s.core k r }))
    ⊎ ((session_number s.names n ≡ None) × (said ≡ None) × (t ≡ s))

-- the open transaction with the least number is aborted, or none is open
abbrev pub EndsOf : Replay → Option ℕ → Option Said → Replay → Type 0
EndsOf s None said t = (said ≡ None) × (t ≡ s)
EndsOf s (Some k) said t = (said ≡ Some (said_end s k)) × (t ≡ aborted s k)

abbrev pub EndsOldest : Replay → Option Said → Replay → Type 0
EndsOldest s said t = EndsOf s (oldest (opens s.core.history)) said t
