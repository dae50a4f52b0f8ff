-- What a schedule's text is answered, over a world, as lines of JSON.
use Rattle.std.specs.Prelude.{◌≡◌, ◌⊎◌, ℕ, ◌||◌, Bool, true, false, List, [], ◌++◌, Option, Some, None}
use Rattle.std.specs.List.{flat_map}
use Rattle.cg_json_program.specs.Steps.{AsksAs, Aborts, HasNoneOpen, Steps, told_bad}
use Rattle.cg_json_program.specs.Report.{Report, plain_line, told_line}
use Rattle.cg_json_world.specs.WorldValue.{world_line}
use Rattle.cg_json_program.specs.declared.reporter.Reporter.{Reporter}
use Rattle.cg_lines.specs.Device.{more}
use Rattle.cg_model.specs.Cgroups.{cgroups}
use Rattle.cg_model.specs.History.{Answer, Refused, Request}
use Rattle.cg_model.specs.Tree.{Tree}
use Rattle.cg_replay.specs.Answering.{EachAnswers}
use Rattle.cg_replay.specs.Replay.{Replay, opened, tree_now}
use Rattle.cg_script.specs.Turns.{session_number}
use Rattle.cg_text.specs.Words.{lines_of}
use Rattle.cg_world_text.specs.World.{world_text}

-- ---- one line

abbrev pub is_refused : Answer → Bool
is_refused (Refused r) = true
is_refused _ = false

-- a refusal is told
abbrev pub tells_refusal : Option Report → Bool
tells_refusal None = false
tells_refusal (Some x) = is_refused x.said.answer

-- the line of what is told, if anything is
abbrev pub text_of : Option Report → List ℕ
text_of None = []
text_of (Some x) = told_line x

-- the state behind a line of which this is told, where the schedule stands thus then
abbrev pub behind : Reporter → Option Report → Replay → Reporter
behind s told p = record { player = p; lines = more s.lines; is_refused = s.is_refused || tells_refusal told }

-- a line is told of
abbrev pub Tells : Reporter → List ℕ → List ℕ → Reporter → Type 0
Tells s line out t = (told : Option Report) × (p : Replay) × Steps s.player (more s.lines) line told p × (t ≡ behind s told p) × (out ≡ text_of told)

-- ---- a whole text

abbrev pub opened_reporter : Tree → ℕ → Reporter
opened_reporter T limit = record { player = opened T limit; lines = 0; is_refused = false }

-- what is written for a schedule's text from here on, and whether a request was refused
pub record IsToldFrom (s : Reporter) (text : List ℕ) (is_refused : Bool) (out : List ℕ) : Type 0 where
  -- what is told of the lines
  pub lines : List ℕ
  pub played : Reporter
  pub answered : EachAnswers Tells s (lines_of text) lines played
  -- and of the aborts of what is open behind them
  pub ends : List Report
  pub last : Replay
  pub aborted : Aborts played.player ends last
  pub closed : HasNoneOpen last
  -- and the tree
  pub whole : out ≡ lines ++ (flat_map told_line ends ++ world_line (tree_now last.core))
  pub refused : is_refused ≡ played.is_refused

-- what is written for a schedule's text, over a world and a limit of the history
abbrev pub IsTold : Tree → ℕ → List ℕ → Bool → List ℕ → Type 0
IsTold T limit text is_refused out = IsToldFrom (opened_reporter T limit) text is_refused out

-- one output tells as JSON of the answers and of the tree that the other has as plain lines: of the same ones, in the same order
abbrev pub TellsThePlain : List ℕ → List ℕ → Type 0
TellsThePlain out plain = (told : List Report) × (T : Tree) × (out ≡ flat_map told_line told ++ world_line T) × (plain ≡ flat_map plain_line told ++ world_text T)

-- ---- for private clauses

-- a session's request is told of, on the newest line
abbrev pub TellsCall : Reporter → List ℕ → Request cgroups → List ℕ → Reporter → Type 0
TellsCall s n r out t =
    (told : Report) × (p : Replay)
    × (((k : ℕ) × AsksAs s.player s.lines n r k (Some told) p) ⊎ ((session_number s.player.names n ≡ None) × (told ≡ told_bad s.lines) × (p ≡ s.player)))
    × (t ≡ record { player = p; lines = s.lines; is_refused = s.is_refused || is_refused told.said.answer }) × (out ≡ told_line told)

-- what is told of the end, and the plain text of it
pub record IsEnding (s : Replay) (out plain : List ℕ) : Type 0 where
  pub ends : List Report
  pub last : Replay
  pub aborted : Aborts s ends last
  pub closed : HasNoneOpen last
  pub told : out ≡ flat_map told_line ends ++ world_line (tree_now last.core)
  pub answered : plain ≡ flat_map plain_line ends ++ world_text (tree_now last.core)
