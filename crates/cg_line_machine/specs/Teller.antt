-- What a teller is, and what its calls tell.
use Rattle.std.specs.Prelude.{◌≡◌, ◌⊎◌, ℕ, List, [], Option, Some, None, Ok, Err, ⊤}
use Rattle.cg_line_machine.specs.Files.{IsFileAsked, NamesNoFile, SpellsNoPath}
use Rattle.cg_line_machine.specs.Status.{status_of}
use Rattle.cg_line_machine.specs.Steps.{AbortsOldest, Steps}
use Rattle.cg_line_machine.specs.declared.status.Status.{Status}
use Rattle.cg_line_machine.specs.declared.status.Status.TheVariants.{Done, NoneOpen, Refused, Untold}
use Rattle.cg_model.specs.History.{Answer}
use Rattle.cg_model.specs.Tree.{Tree}
use Rattle.cg_name.specs.declared.refusal.Refusal.{Refusal}
use Rattle.cg_name.specs.declared.refusal.Refusal.TheVariants.{Memory, Syntax}
use Rattle.cg_replay.specs.Replay.{Replay, opened}
use Rattle.cg_script.specs.Answer.{answer_text}

-- a machine with the names of its sessions, its last answer, and the text that was told last
pub record Told : Type 0 where
  pub machine : Replay
  pub answer : Option Answer
  pub text : List ℕ

abbrev pub told_first : Tree → ℕ → Told
told_first T limit = record { machine = opened T limit; answer = None; text = [] }

-- the text of what was answered: none where nothing was
abbrev pub text_of : Option Answer → List ℕ
text_of None = []
text_of (Some a) = answer_text a

-- An answer is kept, and told by its status and its text, or there was no memory for its text.
abbrev pub TellsAnswer : Status → Option Answer → Status → Told → Type 0
TellsAnswer quiet given status t =
    (t.answer ≡ given) × (((status ≡ status_of quiet given) × (t.text ≡ text_of given)) ⊎ ((status ≡ Untold) × (t.text ≡ [])))

-- There was no memory: the machine and its last answer stay, and nothing is told.
abbrev pub HasNoMemory : Told → Status → Told → Type 0
HasNoMemory s status t = (status ≡ Refused Memory) × (t ≡ record s { text = [] })

-- a line is answered
abbrev pub StepsTold : Told → List ℕ → Status → Told → Type 0
StepsTold s line status t =
    ((given : Option Answer) × Steps s.machine line given t.machine × TellsAnswer Done given status t) ⊎ HasNoMemory s status t

-- the open transaction with the least number is aborted
abbrev pub AbortsTold : Told → Status → Told → Type 0
AbortsTold s status t = (given : Option Answer) × AbortsOldest s.machine given t.machine × TellsAnswer NoneOpen given status t

-- the last answer is told again
abbrev pub AnswerTold : Told → Status → Told → Type 0
AnswerTold s status t = (t.machine ≡ s.machine) × TellsAnswer Done s.answer status t

-- a text is told, and nothing else changes
abbrev pub TextTold : List ℕ → Told → Status → Told → Type 0
TextTold text s status t = ((status ≡ Done) × (t ≡ record s { text = text })) ⊎ HasNoMemory s status t

-- why no file is told
abbrev pub WhyNoFile : Replay → List ℕ → List ℕ → Refusal → Type 0
WhyNoFile s path name Syntax = SpellsNoPath path ⊎ NamesNoFile name
WhyNoFile s path name Memory = ⊤
WhyNoFile s path name refusal = IsFileAsked s path name (Err refusal)

-- the text of a file is told, or why there is none
abbrev pub FileTold : Told → List ℕ → List ℕ → Status → Told → Type 0
FileTold s path name status t =
    ((text : List ℕ) × IsFileAsked s.machine path name (Ok text) × (status ≡ Done) × (t ≡ record s { text = text }))
    ⊎ ((refusal : Refusal) × WhyNoFile s.machine path name refusal × (status ≡ Refused refusal) × (t ≡ record s { text = [] }))
