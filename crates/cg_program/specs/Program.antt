-- What a run does: it reads a world, plays a schedule over it, and tells how it ended.
use Rattle.std.specs.Prelude.{◌≡◌, ◌⊎◌, ◌&&◌, ℕ, Bool, cond, List, Option, Some, None, IfSome}
use Rattle.std.specs.Io.KnownBytes.{Appends}
use Rattle.cg_model.specs.Cgroups.{cgroups}
use Rattle.cg_model.specs.History.{History}
use Rattle.cg_model.specs.Tree.{Tree}
use Rattle.cg_lines.specs.Device.{AppendsFront, Failed}
use Rattle.cg_lines.specs.Lines.{Reading, pending, CanBreak}
use Rattle.cg_script.specs.Fault.{refusal_of}
use Rattle.cg_script.specs.WorldPart.{ReadsWorld}
use Rattle.cg_script.specs.declared.fault.ScriptFault.{ScriptFault}
use Rattle.cg_program.specs.Status.{refusal_line, status_where}

-- the exit status of a run that stopped
abbrev pub status_of : ScriptFault → ℕ
status_of fault = status_where (refusal_of fault)

-- the line that tells of it
abbrev pub fault_line : ScriptFault → List ℕ
fault_line fault = refusal_line (refusal_of fault)

-- the text of the schedule: what stands behind the world where it has no reader of its own
abbrev pub schedule_text : Option Reading → Option (List ℕ) → Option (List ℕ)
schedule_text None rest = rest
schedule_text (Some r) rest = pending r

-- the status of a run that played its schedule: 1 where a request was refused and that counts
abbrev pub played_status : Bool → Bool → ℕ
played_status is_strict is_refused = cond (is_strict && is_refused) 1 0

-- it is one of these
abbrev pub IsPlayed : ℕ → Type 0
IsPlayed status = (status ≡ 0) ⊎ (status ≡ 1)

-- a schedule that is known was played: its whole output was appended, whether a request was refused is this, and this history resulted
abbrev pub Plays : (List ℕ → Bool → List ℕ → History cgroups → Type 0) → Bool → History cgroups → Option (List ℕ) → Option (List ℕ) → Option (List ℕ) → Type 0
Plays plays is_refused past schedule old new = IfSome schedule (λ text. (written : List ℕ) × plays text is_refused written past × Appends old new written)

-- the playing stopped: what was appended is the front of the whole output
abbrev pub Stops : (List ℕ → Bool → List ℕ → Type 0) → Option (List ℕ) → Option (List ℕ) → Option (List ℕ) → Type 0
Stops tells schedule old new = IfSome schedule (λ text. (is_refused : Bool) (written : List ℕ) → tells text is_refused written → AppendsFront old new written)

-- the world at the head of a text was read, where the text is known, and this was done over it with the schedule
abbrev pub DoneOver : (Tree → Option (List ℕ) → Type 0) → Option (List ℕ) → Option Reading → Type 0
DoneOver P world schedule = IfSome world (λ text. (T : Tree) × (rest : Option (List ℕ)) × ReadsWorld text T rest × P T (schedule_text schedule rest))

-- a reader has broken
abbrev pub IsBroken : Reading → Type 0
IsBroken r = CanBreak r.failed_before r.failures r.reads

-- one of the readers has
abbrev pub AreBroken : Reading → Option Reading → Type 0
AreBroken world None = IsBroken world
AreBroken world (Some schedule) = IsBroken world ⊎ IsBroken schedule

-- the bytes were appended whole; or a write failed, and those at the front of them were
abbrev pub WritesUnlessFailed : Option (List ℕ) → Option (List ℕ) → ℕ → ℕ → List ℕ → Type 0
WritesUnlessFailed old new failed failed' bytes = Appends old new bytes ⊎ (Failed failed failed' × AppendsFront old new bytes)
