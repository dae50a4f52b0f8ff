-- What a line of a schedule is answered: nothing, or one answer.
use Rattle.std.specs.Prelude.{◌≡◌, ◌⊎◌, ℕ, List, [], ◌++◌, Option, Some, None}
use Rattle.cg_core.specs.State.{machine, reply, after}
use Rattle.cg_history.specs.SessionMap.{oldest}
use Rattle.cg_model.specs.Cgroups.{cgroups}
use Rattle.cg_model.specs.History.{Request, Answer, Abort, Refused}
use Rattle.cg_model.specs.Machine.{step}
use Rattle.cg_model.specs.Opens.{opens}
use Rattle.cg_name.specs.declared.refusal.Refusal.TheVariants.{Syntax}
use Rattle.cg_replay.specs.Replay.{Replay, IsAnsweredAs}
use Rattle.cg_script.specs.Answer.{answer_text}
use Rattle.cg_script.specs.Request.{SpellsLine, newline}
use Rattle.cg_script.specs.Turns.{IsOneTooMany, session_number}

-- A line says nothing, and is given no answer;
abbrev pub Skips : Replay → List ℕ → Option Answer → Replay → Type 0
Skips s line given t = SpellsLine line None × (given ≡ None) × (t ≡ s)

-- or it is the request of the session with this number: the machine answers, as that of the definitions does, and goes on;
abbrev pub Asks : Replay → List ℕ → Option Answer → Replay → Type 0
Asks s line given t = (n : List ℕ) × (r : Request cgroups) × (k : ℕ) × SpellsLine line (Some (n, r)) × IsAnsweredAs s n r k given t

-- or it is in the grammar only with a name too many, or not at all, and is refused.
abbrev pub Fails : Replay → List ℕ → Option Answer → Replay → Type 0
Fails s line given t =
    ((call : Option (List ℕ × Request cgroups)) → SpellsLine line call → IsOneTooMany s.names call)
    × (given ≡ Some (Refused Syntax)) × (t ≡ s)

abbrev pub Steps : Replay → List ℕ → Option Answer → Replay → Type 0
Steps s line given t = Skips s line given t ⊎ (Asks s line given t ⊎ Fails s line given t)

-- a session's request is answered, or refused since its name is one too many
abbrev pub Asked : Replay → List ℕ → Request cgroups → Option Answer → Replay → Type 0
Asked s n r given t =
    ((k : ℕ) × IsAnsweredAs s n r k given t) ⊎ ((session_number s.names n ≡ None) × (given ≡ Some (Refused Syntax)) × (t ≡ s))

-- what a replay writes for the line: that of the answer
abbrev pub line_of : Option Answer → List ℕ
line_of None = []
line_of (Some a) = answer_text a ++ newline

-- the open transaction with the least number is aborted, as its session asks for it; or none is open
abbrev pub AbortsOf : Replay → Option ℕ → Option Answer → Replay → Type 0
AbortsOf s None given t = (given ≡ None) × (t ≡ s)
AbortsOf s (Some k) given t =
    (given ≡ Some (reply s.core k Abort)) × (t ≡ record s { core = after s.core k Abort })
    × (step cgroups (machine s.core) k Abort ≡ (machine t.core, reply s.core k Abort))

abbrev pub AbortsOldest : Replay → Option Answer → Replay → Type 0
AbortsOldest s given t = AbortsOf s (oldest (opens s.core.history)) given t
