-- What a schedule's text is answered, over a world: the whole of what is written.
use Rattle.std.specs.Prelude.{◌≡◌, ◌⊎◌, ℕ, List, [], ◌∷◌, ◌++◌, map, reverse, Option, Some, None}
use Rattle.cg_name.specs.Refusal.{refusal_text}
use Rattle.cg_name.specs.declared.refusal.Refusal.TheVariants.{Syntax}
use Rattle.cg_text.specs.Words.{lines_of, Word}
use Rattle.cg_model.specs.Tree.{Tree}
use Rattle.cg_model.specs.Cgroups.{cgroups}
use Rattle.cg_model.specs.History.{Request, Answer, Abort, History}
use Rattle.cg_model.specs.Machine.{step}
use Rattle.cg_model.specs.Opens.{opens}
use Rattle.cg_model.specs.Run.{tree_of}
use Rattle.cg_core.specs.State.{CoreState, machine, reply, after}
use Rattle.cg_world_text.specs.World.{world_text}
use Rattle.cg_replay.specs.Answering.{EachAnswers, PassedAnswers}
use Rattle.cg_script.specs.Answer.{answer_text}
use Rattle.cg_script.specs.Request.{SpellsCall, SpellsLine, newline}
use Rattle.cg_script.specs.Turns.{IsOneTooMany, session_number, with_name}

-- a schedule so far: the names of its sessions in the order in which they first stood in a line, and the machine, as a core
pub record Replay : Type 0 where
  pub names : List (List ℕ)
  pub core : CoreState

abbrev pub answer_line : CoreState → ℕ → Request cgroups → List ℕ
answer_line c k r = answer_text (reply c k r) ++ newline

-- A line says nothing, and nothing is answered;
abbrev pub Skips : Replay → List ℕ → List ℕ → Replay → Type 0
Skips s line out t = SpellsLine line None × (out ≡ []) × (t ≡ s)

-- or it is a session's request, and the machine answers;
abbrev pub AsksAs : Replay → List ℕ → Request cgroups → ℕ → List ℕ → Replay → Type 0
AsksAs s n r k out t =
    (session_number s.names n ≡ Some k) × (out ≡ answer_line s.core k r) × (t ≡ record { names = with_name s.names n; core = after s.core k r })

abbrev pub Asks : Replay → List ℕ → List ℕ → Replay → Type 0
Asks s line out t = (n : List ℕ) × (r : Request cgroups) × (k : ℕ) × SpellsLine line (Some (n, r)) × AsksAs s n r k out t

-- or it is in the grammar only with a name too many, or not at all, and is refused.
abbrev pub Fails : Replay → List ℕ → List ℕ → Replay → Type 0
Fails s line out t =
    ((call : Option (List ℕ × Request cgroups)) → SpellsLine line call → IsOneTooMany s.names call)
    × (out ≡ refusal_text Syntax ++ newline) × (t ≡ s)

-- the session with this number is answered by the machine, as that of the definitions answers, and both go on
abbrev pub IsAnsweredAs : Replay → List ℕ → Request cgroups → ℕ → Option Answer → Replay → Type 0
IsAnsweredAs s n r k answer t =
    (session_number s.names n ≡ Some k) × (answer ≡ Some (reply s.core k r)) × (t ≡ record { names = with_name s.names n; core = after s.core k r })
    × (step cgroups (machine s.core) k r ≡ (machine t.core, reply s.core k r))

-- a session's request is answered so, or its name is one too many
abbrev pub IsAnswered : Replay → List ℕ → Request cgroups → Option Answer → Replay → Type 0
IsAnswered s n r answer t = ((k : ℕ) × IsAnsweredAs s n r k answer t) ⊎ ((session_number s.names n ≡ None) × (answer ≡ None) × (t ≡ s))

-- the request of the session with this number is answered by the machine, as that of the definitions answers, and both go on
abbrev pub IsStepped : Replay → ℕ → Request cgroups → Answer → Replay → Type 0
IsStepped s k r answer t =
    (answer ≡ reply s.core k r) × (t ≡ record s { core = after s.core k r }) × (step cgroups (machine s.core) k r ≡ (machine t.core, reply s.core k r))

-- words are no session's request, or that of a session whose name is one too many
abbrev pub AreRefused : Replay → List Word → Type 0
AreRefused s ws = (n : List ℕ) (r : Request cgroups) → SpellsCall ws n r → session_number s.names n ≡ None

-- the words of a line are a session's request, and the machine answers, or they are refused
abbrev pub AnswersWords : Replay → List Word → List ℕ → Replay → Type 0
AnswersWords s ws out t =
    ((n : List ℕ) × (r : Request cgroups) × (k : ℕ) × SpellsCall ws n r × AsksAs s n r k out t)
    ⊎ (AreRefused s ws × (out ≡ refusal_text Syntax ++ newline) × (t ≡ s))

abbrev pub Answers : Replay → List ℕ → List ℕ → Replay → Type 0
Answers s line out t = Skips s line out t ⊎ (Asks s line out t ⊎ Fails s line out t)

-- the lines are answered one after another
abbrev pub AnswersAll : Replay → List (List ℕ) → List ℕ → Replay → Type 0
AnswersAll = EachAnswers Answers

-- the lines at the front of a text were answered, which a reader went past, and nothing else was written
abbrev pub AnswersPassed : Replay → List ℕ → Option (List ℕ) → Option (List ℕ) → Option (List ℕ) → Type 0
AnswersPassed = PassedAnswers Answers

-- the sessions that have an open transaction, the least number first: in the history the newest stands first
abbrev pub ending_sessions : History cgroups → List ℕ
ending_sessions h = map (λ p. p.0) (reverse (opens h))

-- the answers to the aborts of these, one after another
abbrev pub abort_lines : CoreState → List ℕ → List ℕ
abort_lines c [] = []
abort_lines c (k ∷ ks) = answer_line c k Abort ++ abort_lines (after c k Abort) ks

abbrev pub aborted_by : CoreState → List ℕ → CoreState
aborted_by c [] = c
aborted_by c (k ∷ ks) = aborted_by (after c k Abort) ks

-- the tree as it stands
abbrev pub tree_now : CoreState → Tree
tree_now c = tree_of cgroups c.opening c.history

-- at the end these abort, and the tree is written
abbrev pub ending_by : CoreState → List ℕ → List ℕ
ending_by c ks = abort_lines c ks ++ world_text (tree_now (aborted_by c ks))

-- at the end all that is still open is aborted
abbrev pub ending_text : CoreState → List ℕ
ending_text c = ending_by c (ending_sessions c.history)

-- and this is left
abbrev pub core_ended : CoreState → CoreState
core_ended c = aborted_by c (ending_sessions c.history)

abbrev pub opened : Tree → ℕ → Replay
opened T l = record { names = []; core = record { opening = T; bound = l; history = [] } }

-- what is written for a schedule's text from here on
pub record IsOutputFrom (s : Replay) (text out : List ℕ) : Type 0 where
  pub answers : List ℕ
  pub last : Replay
  pub answered : AnswersAll s (lines_of text) answers last
  pub whole : out ≡ answers ++ ending_text last.core

-- what is written for a schedule's text, over a world and a limit of the history
abbrev pub IsOutput : Tree → ℕ → List ℕ → List ℕ → Type 0
IsOutput T l text out = IsOutputFrom (opened T l) text out

-- what is written, and the history that results, with the aborts at the end
abbrev pub IsOutputAndHistoryFrom : Replay → List ℕ → List ℕ → History cgroups → Type 0
IsOutputAndHistoryFrom s text out h = (o : IsOutputFrom s text out) × (h ≡ (core_ended o.last.core).history)

abbrev pub IsOutputAndHistory : Tree → ℕ → List ℕ → List ℕ → History cgroups → Type 0
IsOutputAndHistory T l text out h = IsOutputAndHistoryFrom (opened T l) text out h

-- the law of outputs: a text has one at most over a tree and a limit,
abbrev pub OneOutput : Type 0
OneOutput = (T : Tree) (limit : ℕ) (text a b : List ℕ) → IsOutput T limit text a → IsOutput T limit text b → a ≡ b

-- and it can't have none
abbrev pub SomeOutput : Type 0
SomeOutput = (T : Tree) (limit : ℕ) (text : List ℕ) → ¬ ((out : List ℕ) → ¬ (IsOutput T limit text out))
