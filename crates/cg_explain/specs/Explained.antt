-- What a schedule's text is answered, over a world, with comments beside the answers.
use Rattle.std.specs.Prelude.{◌≡◌, ℕ, ◌-◌, ◌&&◌, ◌||◌, ◌==◌, Bool, true, false, cond, nat_le, nat_lt, List, [], ◌∷◌, ◌++◌, length, take, get_or, codes}
use Rattle.std.specs.List.{flat_map}
use Rattle.std.specs.Fmt.{decimal}
use Rattle.std.specs.Str.{bytes_eq}
use Rattle.cg_text.specs.Words.{lines_of}
use Rattle.cg_core.specs.State.{CoreState}
use Rattle.cg_model.specs.Cgroups.{cgroups}
use Rattle.cg_model.specs.Command.{Command}
use Rattle.cg_model.specs.History.{Answer, Do, History, Refused, Request}
use Rattle.cg_model.specs.Tree.{Tree}
use Rattle.cg_lines.specs.Device.{more}
use Rattle.cg_name.specs.declared.refusal.Refusal.{Refusal}
use Rattle.cg_name.specs.declared.refusal.Refusal.TheVariants.{Busy}
use Rattle.cg_script.specs.Request.{newline}
use Rattle.cg_replay.specs.Answering.{EachAnswers}
use Rattle.cg_replay.specs.Replay.{Replay, Answers, IsOutput, ending_text, opened, tree_now}
use Rattle.cg_explain.specs.Comment.{comment}
use Rattle.cg_explain.specs.InTheWay.{way_notes}
use Rattle.cg_explain.specs.Notes.{command_notes}
use Rattle.cg_explain.specs.declared.explainer.Comments.{Comments}
use Rattle.cg_explain.specs.declared.explainer.Explainer.{Explainer}

-- ---- comments

-- what is shown of a line: nothing of one that is too long
abbrev pub shown_line : List ℕ → List ℕ
shown_line line = cond (nat_le (length line) 65536) line []

-- there is an answer: a line that says nothing has none
abbrev pub is_some_text : List ℕ → Bool
is_some_text [] = false
is_some_text (b ∷ bytes) = true

-- before the answer to a line stands the line with its number, where that is wanted
abbrev pub echo_text : Bool → ℕ → List ℕ → List ℕ → List ℕ
echo_text is_wanted n line answer = cond (is_wanted && is_some_text answer) (comment (decimal n ++ 32 ∷ line)) []

-- the answer refuses
abbrev pub is_refusal : List ℕ → Bool
is_refusal answer = bytes_eq (take 7 answer) (codes "refused")

-- the answer begins a transaction
abbrev pub is_beginning : List ℕ → Bool
is_beginning answer = bytes_eq (take 6 answer) (codes "begun ")

-- ---- the lines that began transactions

-- the n-th line behind those that began transactions before, where this is its answer
abbrev pub begun_behind : List (List ℕ) → ℕ → List ℕ → List ℕ → List (List ℕ)
begun_behind begun n line answer = cond (is_beginning answer) (begun ++ (decimal n ++ codes ": " ++ line) ∷ []) begun

-- the line that began this transaction, behind its number; nothing where none did
abbrev pub begun_line : List (List ℕ) → ℕ → List ℕ
begun_line begun t = get_or begun (t - 1) []

-- the line that began a transaction
abbrev pub began_note : ℕ → List ℕ → List ℕ
began_note t line = comment (codes "transaction " ++ decimal t ++ codes " began on line " ++ line)

-- of a transaction that is in the way that line is told
abbrev pub busy_note : List (List ℕ) → ℕ → List ℕ
busy_note begun t = cond (is_some_text (begun_line begun t)) (began_note t (begun_line begun t)) []

-- ---- the lines that asked for the records

-- the number n of a line behind those of the lines before it, where there are more records behind it than k
abbrev pub asked_behind : List ℕ → ℕ → ℕ → ℕ → List ℕ
asked_behind asked n k records = cond (nat_lt k records) (asked ++ n ∷ []) asked

-- ---- one line

-- the state behind a line that was answered so, where the schedule stands thus then, and there were k records before
abbrev pub behind_answer : Explainer → Replay → ℕ → List ℕ → List ℕ → Explainer
behind_answer s p k line answer = record {
  player = p;
  comments = s.comments;
  lines = more s.lines;
  is_refused = s.is_refused || is_refusal answer;
  begun = begun_behind s.begun (more s.lines) line answer;
  asked = asked_behind s.asked (more s.lines) k (length p.core.history);
}

-- what is written for a line that was answered so, in the state behind it
abbrev pub told_text : Explainer → List ℕ → List ℕ → List ℕ
told_text t line answer = echo_text t.comments.echo t.lines line answer ++ answer

-- what is told of a refused command: who is in the way and by which command, or else what is in its way in the tree
abbrev pub refusal_notes : List (List ℕ) → List ℕ → CoreState → Command → Refusal → List ℕ
refusal_notes begun asked k c (Busy t) = busy_note begun t.0 ++ way_notes asked k t.0 c
refusal_notes begun asked k c r = command_notes (tree_now k) c r

-- what is told of a record: of a command that is refused what is in its way
abbrev pub record_notes : List (List ℕ) → List ℕ → CoreState → Request cgroups → Answer → List ℕ
record_notes begun asked k (Do c) (Refused r) = refusal_notes begun asked k c r
record_notes begun asked k _ _ = []

-- what is told of the newest record
abbrev pub newest_notes : List (List ℕ) → List ℕ → CoreState → History cgroups → List ℕ
newest_notes begun asked k [] = []
newest_notes begun asked k (r ∷ h) = record_notes begun asked k r.request r.answer

-- behind an answer stands what is told of its record, where that is wanted and there is one: there were n before
abbrev pub notes_text : Bool → ℕ → List (List ℕ) → List ℕ → CoreState → List ℕ
notes_text is_wanted n begun asked k = cond (is_wanted && nat_lt n (length k.history)) (newest_notes begun asked k k.history) []

-- a line is answered as it always is, with comments beside that
abbrev pub Explains : Explainer → List ℕ → List ℕ → Explainer → Type 0
Explains s line out t =
    (answer : List ℕ) × (p : Replay) × Answers s.player line answer p × (t ≡ behind_answer s p (length s.player.core.history) (shown_line line) answer)
    × (out ≡ told_text t (shown_line line) answer ++ notes_text s.comments.explain (length s.player.core.history) t.begun t.asked p.core)

-- ---- a whole text

abbrev pub opened_with : Comments → Tree → ℕ → Explainer
opened_with comments T l = record { player = opened T l; comments = comments; lines = 0; is_refused = false; begun = []; asked = [] }

-- what is written for a schedule's text from here on, and whether a request was refused
pub record IsExplainedFrom (s : Explainer) (text : List ℕ) (is_refused : Bool) (out : List ℕ) : Type 0 where
  pub told : List ℕ
  pub last : Explainer
  pub answered : EachAnswers Explains s (lines_of text) told last
  pub whole : out ≡ told ++ ending_text last.player.core
  pub refused : is_refused ≡ last.is_refused

-- what is written for a schedule's text, over a world and a limit of the history
abbrev pub IsExplained : Comments → Tree → ℕ → List ℕ → Bool → List ℕ → Type 0
IsExplained comments T l text is_refused out = IsExplainedFrom (opened_with comments T l) text is_refused out

-- ---- without the comments

-- a line is a comment: it begins with a number sign
abbrev pub is_comment : List ℕ → Bool
is_comment [] = false
is_comment (b ∷ bytes) = b == 35

-- a line with its newline, or nothing of a comment
abbrev pub uncommented : List ℕ → List ℕ
uncommented line = cond (is_comment line) [] (line ++ newline)

-- a text without its comments
abbrev pub without_comments : List ℕ → List ℕ
without_comments text = flat_map uncommented (lines_of text)

-- The law of comments: where they are left out before the last tree, the plain output of the schedule is left.
abbrev pub CommentsStandAside : Type 0
CommentsStandAside =
    (comments : Comments) (T : Tree) (limit : ℕ) (text : List ℕ) (is_refused : Bool) (out : List ℕ) → IsExplained comments T limit text is_refused out
    → (told : List ℕ) × (ending : List ℕ) × (out ≡ told ++ ending) × IsOutput T limit text (without_comments told ++ ending)
