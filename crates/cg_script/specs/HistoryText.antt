-- The text of a history: a schedule that asks for the same again, with each answer in a comment.
use Rattle.std.specs.Prelude.{◌≡◌, ℕ, ◌+◌, ◌<◌, ◌≤◌, ◌^◌, nat_eq, if◌then◌else◌, List, [], ◌∷◌, ◌++◌, length, map, reverse, codes, ⊤}
use Rattle.std.specs.List.{AllByRecursion, flat_map, list_any, position_or_len}
use Rattle.std.specs.Fmt.{decimal}
use Rattle.std.specs.Str.{IsUtf8}
use Rattle.cg_text.specs.Words.{lines_of}
use Rattle.cg_model.specs.Cgroups.{cgroups}
use Rattle.cg_model.specs.History.{Request, Answer, Gave, Record, History}
use Rattle.cg_model.specs.System.{Text}
use Rattle.cg_script.specs.Answer.{answer_text}
use Rattle.cg_script.specs.Request.{CanBeAsked, newline, request_line}
use Rattle.cg_script.specs.Turns.{Turn, Ask, Skip, AreTurns, asked}

-- ---- the text

-- the name of a session in the text: an `s` and its number
abbrev pub session_name : ℕ → List ℕ
session_name s = codes "s" ++ decimal s

-- the line that answers, as a comment
abbrev pub comment_line : Answer → List ℕ
comment_line a = codes "# " ++ answer_text a

-- a record's two lines
abbrev pub record_text : Record cgroups → List ℕ
record_text r = (request_line (session_name r.session) r.request ++ newline) ++ (comment_line r.answer ++ newline)

-- the oldest record comes first, which in a history stands last
abbrev pub history_text : History cgroups → List ℕ
history_text h = flat_map record_text (reverse h)

-- ---- what a schedule of this text asks

-- the sessions of a history, in the order of their first records
abbrev pub sessions : History cgroups → List ℕ
sessions [] = []
sessions (r ∷ h) = if list_any (nat_eq r.session) (sessions h) then sessions h else sessions h ++ r.session ∷ []

-- the place of a session among these, from 1 on
abbrev pub place : List ℕ → ℕ → ℕ
place ss s = position_or_len (nat_eq s) ss + 1

-- what was asked for, the oldest first, where sessions have new numbers: from 1 on in the order of their first records
abbrev pub renumbered : History cgroups → List (ℕ × Request cgroups)
renumbered h = map (λ r. (place (sessions h) r.session, r.request)) (reverse h)

-- each record's first line asks, and its second says nothing
abbrev pub turns_of : List (ℕ × Request cgroups) → List Turn
turns_of calls = flat_map (λ c. Ask c.0 c.1 ∷ Skip ∷ []) calls

-- a record as code holds it: its session has a number of 32 bits, and its request can be asked for
abbrev pub IsAsked : Record cgroups → Type 0
IsAsked r = (r.session < 2 ^ 32) × CanBeAsked r.request

-- what an answer shows is text
abbrev pub ShowsText : Answer → Type 0
ShowsText (Gave (Text x)) = IsUtf8 x
ShowsText _ = ⊤

-- a record of a session that code can name, whose lines can be read
pub record IsReadable (r : Record cgroups) : Type 0 where
  pub session : r.session < 2 ^ 32
  pub request : CanBeAsked r.request
  pub shown : ShowsText r.answer
  pub short : length (comment_line r.answer) ≤ 65536

-- The law of histories: the text of one of at most 4,096 sessions is a schedule that asks for what was asked for, and has no line
-- outside the grammar. A request's line is never too long, and so that is asked of the comments alone.
abbrev pub HistoriesAreRead : Type 0
HistoriesAreRead =
    (h : History cgroups) → length (sessions h) ≤ 4096 → AllByRecursion IsReadable h
    → AreTurns [] (lines_of (history_text h)) (turns_of (renumbered h)) × (asked (turns_of (renumbered h)) ≡ renumbered h)
