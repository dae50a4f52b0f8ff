-- Comments stand aside: without them the plain answers are left.
use Rattle.std.proofs.Common.{◌≡◌, ℕ, zero, suc, ◌-◌, ◌&&◌, Bool, get_or, true, false, cond, List, [], ◌∷◌, ◌++◌, nat_le, nat_lt, take, filter, length, reverse, slice_get, codes, Some, None, Option, refl, sym, ap, subst, ◌∙◌, inl, inr, append_assoc, append-nil}
use Rattle.std.specs.List.{AllByRecursion, flat_map}
use Rattle.std.specs.Fmt.{decimal}
use Rattle.std.proofs.lemmas.Bool.{cond_both}
use Rattle.cg_name.specs.Controller.{controller_word}
use Rattle.cg_name.specs.Path.{Path, path_word}
use Rattle.cg_name.specs.Refusal.{refusal_text}
use Rattle.cg_name.specs.declared.controller.Controller.{Controller}
use Rattle.cg_name.specs.declared.refusal.Refusal.{Refusal}
use Rattle.cg_name.specs.declared.refusal.Refusal.TheVariants as refusals
use Rattle.cg_name.specs.declared.refusal.Refusal.TheVariants.{Syntax}
use Rattle.cg_text.specs.Controllers.{has, members}
use Rattle.cg_text.specs.FileText.{names_text}
use Rattle.cg_text.specs.Words.{lines_of}
use Rattle.cg_text.specs.declared.limit.Limit.{Limit}
use Rattle.cg_text.specs.declared.limit.Limit.TheVariants.{Max, UpTo}
use Rattle.cg_text.specs.declared.settings.Settings.{Settings}
use Rattle.cg_lines.proofs.LinesLaw.{lines_of-begins}
use Rattle.cg_core.specs.State.{CoreState, reply}
use Rattle.cg_model.specs.Cgroups.{cgroups}
use Rattle.cg_model.specs.Command.{Command, Create, Remove, Migrate, Subtree, Freeze, Cpus, Show, Online, MaxDescendants, MaxDepth}
use Rattle.cg_model.specs.Derived.{children, processes}
use Rattle.cg_model.specs.History.{Answer, Begun, Gave, Saved, WentBack, Committed, Aborted, Refused, Do, History, Record, Request}
use Rattle.cg_model.specs.System.{Done, Text}
use Rattle.cg_model.specs.Tree.{Tree, group}
use Rattle.cg_tree.specs.Ancestors.{ancestors, ancestors_above}
use Rattle.cg_tree.specs.declared.ancestors.Ancestor.{Ancestor}
use Rattle.cg_script.specs.Answer.{answer_text}
use Rattle.cg_script.specs.Request.{newline}
use Rattle.cg_replay.specs.Answering.{EachAnswers}
use Rattle.cg_replay.specs.Replay.{Replay, Answers, ending_text, opened, tree_now}
use Rattle.cg_explain.specs.Comment.{comment}
use Rattle.cg_explain.specs.Explained.{behind_answer, begun_behind, begun_line, busy_note, echo_text, is_beginning, opened_with, refusal_notes, is_comment, is_some_text, newest_notes, notes_text, record_notes, shown_line, told_text, uncommented, without_comments, CommentsStandAside, Explains}
use Rattle.cg_explain.specs.InTheWay.{clash_note, line_note, mark_said, record_note, request_note, way_notes}
use Rattle.cg_explain.proofs.CommandsOnLine.{line_on_line}
use Rattle.cg_core.specs.InTheWay.{in_the_way}
use Rattle.cg_command_text.specs.CommandText.{command_text}
use Rattle.cg_model.specs.Footprint.{Mark, footprint}
use Rattle.cg_explain.specs.Notes.{child_said, children_notes, command_notes, computer_note, control_note, deep_note, deep_where, group_notes, is_wanted, lacking_note, lacking_notes, many_note, many_where, missing_note, path_note, processes_note, share, spaced_pid}
use Rattle.cg_explain.specs.declared.explainer.Explainer.{Explainer}
use Rattle.cg_explain.proofs.OneLine.{IsOnLine, answer_on_line, both_on_line, controller_on_line, lines_on_line, names_on_line, no_newline, number_on_line, path_on_line, refusal_on_line}

-- ---- a line of a text

line_left : (l rest : List ℕ) → IsOnLine l → without_comments ((l ++ newline) ++ rest) ≡ uncommented l ++ without_comments rest
line_left l rest h =
    ap (flat_map uncommented) (lines_of-begins ((l ++ newline) ++ rest) l rest (no_newline l h, inl (append_assoc l newline rest)))

comment_left : (text rest : List ℕ) → IsOnLine text → without_comments (comment text ++ rest) ≡ without_comments rest
comment_left text rest h = line_left (codes "# " ++ text) rest h

-- ---- an answer

-- nothing, or a line that is no comment
abbrev IsPlainLine : List ℕ → Type 0
IsPlainLine l = (text : List ℕ) × IsOnLine text × (is_comment text ≡ false) × (l ≡ text ++ newline)

no_comment : (a : Answer) → is_comment (answer_text a) ≡ false
no_comment (Begun t) = refl
no_comment (Gave Done) = refl
no_comment (Gave (Text x)) = refl
no_comment Saved = refl
no_comment (WentBack n) = refl
no_comment (Committed k) = refl
no_comment (Aborted t) = refl
no_comment (Refused r) = refl

plain_left : (l rest : List ℕ) → IsPlainLine l → without_comments (l ++ rest) ≡ l ++ without_comments rest
plain_left l rest h =
    ap (λ x. without_comments (x ++ rest)) h.3
    ∙ line_left h.0 rest h.1
    ∙ ap (λ b. cond b [] (h.0 ++ newline) ++ without_comments rest) h.2
    ∙ ap (λ x. x ++ without_comments rest) (sym h.3)

answer_left : (s p : Replay) (line answer rest : List ℕ) → Answers s line answer p → without_comments (answer ++ rest) ≡ answer ++ without_comments rest
answer_left s p line answer rest (inl h) =
    ap (λ x. without_comments (x ++ rest)) h.1 ∙ ap (λ x. x ++ without_comments rest) (sym h.1)
answer_left s p line answer rest (inr (inl h)) =
    let a : Answer = reply s.core h.2 h.1 in
    plain_left answer rest (answer_text a, answer_on_line a, no_comment a, h.4.1)
answer_left s p line answer rest (inr (inr h)) = plain_left answer rest (refusal_text Syntax, refusal_on_line Syntax, refl, h.1)

-- ---- what is told of a line

shown_on_line : (line : List ℕ) → IsOnLine line → IsOnLine (shown_line line)
shown_on_line line h = cond_both (nat_le (length line) 65536) line [] IsOnLine (λ _. h) (λ _. refl)

echo_left : (is_shown : Bool) (text rest : List ℕ) → IsOnLine text → without_comments (cond is_shown (comment text) [] ++ rest) ≡ without_comments rest
echo_left true text rest h = comment_left text rest h
echo_left false text rest h = refl

told_left : (s t : Explainer) (p : Replay) (line answer rest : List ℕ) → IsOnLine line → Answers s.player line answer p → without_comments (told_text t (shown_line line) answer ++ rest) ≡ answer ++ without_comments rest
told_left s t p line answer rest h a =
    let echo : List ℕ = echo_text t.comments.echo t.lines (shown_line line) answer in
    let shown : IsOnLine (decimal t.lines ++ 32 ∷ shown_line line) = both_on_line (decimal t.lines) (32 ∷ shown_line line) (number_on_line t.lines) (shown_on_line line h) in
    ap without_comments (append_assoc echo answer rest)
    ∙ echo_left (t.comments.echo && is_some_text answer) (decimal t.lines ++ 32 ∷ shown_line line) (answer ++ rest) shown
    ∙ answer_left s.player p line answer rest a

-- ---- comments behind an answer

-- it stands aside, whatever comes behind it
abbrev IsAside : List ℕ → Type 0
IsAside x = (rest : List ℕ) → without_comments (x ++ rest) ≡ without_comments rest

aside_none : IsAside []
aside_none rest = refl

aside_comment : (text : List ℕ) → IsOnLine text → IsAside (comment text)
aside_comment text h rest = comment_left text rest h

aside_both : (x y : List ℕ) → IsAside x → IsAside y → IsAside (x ++ y)
aside_both x y h k rest = ap without_comments (append_assoc x y rest) ∙ h (y ++ rest) ∙ k rest

aside_each : {A : Type 0} (f : A → List ℕ) → ((a : A) → IsAside (f a)) → (xs : List A) → IsAside (flat_map f xs)
aside_each f h [] = aside_none
aside_each f h (x ∷ xs) = aside_both (f x) (flat_map f xs) (h x) (aside_each f h xs)

aside_where : (b : Bool) (x : List ℕ) → IsAside x → IsAside (cond b x [])
aside_where true x h = h
aside_where false x h = aside_none

aside_unless : (b : Bool) (x : List ℕ) → IsAside x → IsAside (cond b [] x)
aside_unless true x h = aside_none
aside_unless false x h = h

note_aside : (p : Path) (said : List ℕ) → IsOnLine said → IsAside (path_note p said)
note_aside p said h = aside_comment (path_word p ++ said) (both_on_line (path_word p) said (path_on_line p) h)

share_on_line : (n : ℕ) (word : List ℕ) (most : ℕ) → IsOnLine word → IsOnLine (share n word most)
share_on_line n word most h = both_on_line (decimal n ++ word) (decimal most) (both_on_line (decimal n) word (number_on_line n) h) (number_on_line most)

missing_aside : (p : Path) (n : ℕ) (s : Option Settings) → IsAside (missing_note p n s)
missing_aside p n None = note_aside (take n p) (codes " is no group") refl
missing_aside p n (Some s) = aside_none

lacking_aside : (c : Controller) (p : Path) (n : ℕ) (s : Option Settings) → IsAside (lacking_note c p n s)
lacking_aside c p n None = aside_none
lacking_aside c p n (Some s) = aside_unless (has s.control c) _ (note_aside (take n p) (codes " passes on no " ++ controller_word c) (controller_on_line c))

many_aside : (p : Path) (n count : ℕ) (l : Limit) → IsAside (many_where p n count l)
many_aside p n count Max = aside_none
many_aside p n count (UpTo most) =
    aside_where (nat_le most.number count) _ (note_aside (take n p) (codes " has " ++ share count (codes " descendants of ") most.number) (share_on_line count (codes " descendants of ") most.number refl))

many_note_aside : (p : Path) (n count : ℕ) (s : Option Settings) → IsAside (many_note p n count s)
many_note_aside p n count None = aside_none
many_note_aside p n count (Some s) = many_aside p n count s.max_descendants

deep_aside : (p : Path) (n : ℕ) (l : Limit) → IsAside (deep_where p n l)
deep_aside p n Max = aside_none
deep_aside p n (UpTo most) =
    aside_where (nat_lt most.number (length p - n)) _ (note_aside (take n p) (codes " would have " ++ share (length p - n) (codes " levels of ") most.number) (share_on_line (length p - n) (codes " levels of ") most.number refl))

deep_note_aside : (p : Path) (n : ℕ) (s : Option Settings) → IsAside (deep_note p n s)
deep_note_aside p n None = aside_none
deep_note_aside p n (Some s) = deep_aside p n s.max_depth

pids_on_line : (pids : List ℕ) → IsOnLine (flat_map spaced_pid pids)
pids_on_line [] = refl
pids_on_line (k ∷ pids) = both_on_line (decimal k) (flat_map spaced_pid pids) (number_on_line k) (pids_on_line pids)

processes_aside : (p : Path) (pids : List ℕ) → IsAside (processes_note p pids)
processes_aside p pids =
    let count : IsOnLine (decimal (length pids) ++ codes "):") = both_on_line (decimal (length pids)) (codes "):") (number_on_line (length pids)) refl in
    note_aside p (codes " has processes (" ++ decimal (length pids) ++ codes "):" ++ flat_map spaced_pid (take 8 pids)) (both_on_line (codes " has processes (" ++ decimal (length pids) ++ codes "):") (flat_map spaced_pid (take 8 pids)) count (pids_on_line (take 8 pids)))

control_aside : (p : Path) (s : Option Settings) → IsAside (control_note p s)
control_aside p None = aside_none
control_aside p (Some s) = note_aside p (codes " passes on " ++ names_text 44 s.control) (names_on_line (members s.control))

said_on_line : (wanted : Option Controller) → IsOnLine (child_said wanted)
said_on_line None = refl
said_on_line (Some c) = controller_on_line c

children_aside : (T : Tree) (p : Path) (wanted : Option Controller) → IsAside (children_notes T p wanted)
children_aside T p wanted = aside_each (λ (e : Path × Settings). path_note e.0 (child_said wanted)) (λ e. note_aside e.0 (child_said wanted) (said_on_line wanted)) (take 8 (filter (is_wanted wanted) (children T p)))

group_aside : (T : Tree) (p : Path) (way : List Ancestor) (r : Refusal) → IsAside (group_notes T p way r)
group_aside T p way refusals.NoGroup = aside_each (λ (a : Ancestor). missing_note p a.depth a.settings) (λ a. missing_aside p a.depth a.settings) way
group_aside T p way refusals.HasChildren = children_aside T p None
group_aside T p way refusals.HasProcesses = processes_aside p (processes T p)
group_aside T p way refusals.Controlled = control_aside p (group T p)
group_aside T p way (refusals.Unavailable c) =
    aside_both (lacking_notes c p (ancestors_above T p)) (computer_note T.controllers c) (aside_each (λ (a : Ancestor). lacking_note c p a.depth a.settings) (λ a. lacking_aside c p a.depth a.settings) (ancestors_above T p))
    (aside_unless (has T.controllers c) _ (aside_comment (codes "the computer has no " ++ controller_word c) (controller_on_line c)))
group_aside T p way (refusals.InUse c) = children_aside T p (Some c)
group_aside T p way refusals.TooMany = aside_each (λ (a : Ancestor). many_note p a.depth a.descendants a.settings) (λ a. many_note_aside p a.depth a.descendants a.settings) (ancestors_above T p)
group_aside T p way refusals.TooDeep = aside_each (λ (a : Ancestor). deep_note p a.depth a.settings) (λ a. deep_note_aside p a.depth a.settings) (ancestors_above T p)
group_aside T p way _ = aside_none

command_aside : (T : Tree) (c : Command) (r : Refusal) → IsAside (command_notes T c r)
command_aside T (Create p) r = group_aside T p (ancestors_above T p) r
command_aside T (Remove p) r = group_aside T p (ancestors T p) r
command_aside T (Migrate k p) r = group_aside T p (ancestors T p) r
command_aside T (Subtree p ops) r = group_aside T p (ancestors T p) r
command_aside T (Freeze p v) r = group_aside T p (ancestors T p) r
command_aside T (Cpus p v) r = group_aside T p (ancestors T p) r
command_aside T (Show p f) r = group_aside T p (ancestors T p) r
command_aside T (MaxDescendants p l) r = group_aside T p (ancestors T p) r
command_aside T (MaxDepth p l) r = group_aside T p (ancestors T p) r
command_aside T (Online v) r = aside_none

-- ---- the lines that began transactions

-- each stands on a line
abbrev AreOnLine : List (List ℕ) → Type 0
AreOnLine begun = AllByRecursion IsOnLine begun

one_on_line : (begun : List (List ℕ)) (t : ℕ) → AreOnLine begun → IsOnLine (get_or begun t [])
one_on_line [] t h = refl
one_on_line (l ∷ begun) zero h = h.0
one_on_line (l ∷ begun) (suc t) h = one_on_line begun t h.1

one_more : (begun : List (List ℕ)) (l : List ℕ) → AreOnLine begun → IsOnLine l → AreOnLine (begun ++ l ∷ [])
one_more [] l h k = (k, tt)
one_more (x ∷ begun) l h k = (h.0, one_more begun l h.1 k)

-- and so it does behind a line
still_on_line : (begun : List (List ℕ)) (n : ℕ) (line answer : List ℕ) → AreOnLine begun → IsOnLine line → AreOnLine (begun_behind begun n line answer)
still_on_line begun n line answer h k =
    cond_both (is_beginning answer) (begun ++ (decimal n ++ codes ": " ++ line) ∷ []) begun AreOnLine
    (λ _. one_more begun (decimal n ++ codes ": " ++ line) h (both_on_line (decimal n ++ codes ": ") line (both_on_line (decimal n) (codes ": ") (number_on_line n) refl) k))
    (λ _. h)

busy_aside : (begun : List (List ℕ)) (t : ℕ) → AreOnLine begun → IsAside (busy_note begun t)
busy_aside begun t h =
    let text : List ℕ = codes "transaction " ++ decimal t ++ codes " began on line " ++ begun_line begun t in
    aside_where (is_some_text (begun_line begun t)) (comment text)
    (aside_comment text (both_on_line (codes "transaction " ++ decimal t ++ codes " began on line ") (begun_line begun t) (both_on_line (codes "transaction " ++ decimal t) (codes " began on line ") (number_on_line t) refl) (one_on_line begun (t - 1) h)))

-- ---- the command in the way

line_aside : (n : ℕ) (m : Mark) (c : Command) → IsAside (line_note n m c)
line_aside n m c = aside_comment (codes "line " ++ decimal n ++ codes " " ++ mark_said m ++ codes ": " ++ command_text c) (line_on_line n m c)

request_aside : (n : ℕ) (m : Mark) (r : Request cgroups) → IsAside (request_note n m r)
request_aside n m (Do c) = line_aside n m c
request_aside n m _ = aside_none

asked_aside : (n : ℕ) (m : Mark) (r : Option (Record cgroups)) → IsAside (record_note n m r)
asked_aside n m None = aside_none
asked_aside n m (Some r) = request_aside n m r.request

clash_aside : (asked : List ℕ) (h : History cgroups) (k : Option (ℕ × Mark)) → IsAside (clash_note asked h k)
clash_aside asked h None = aside_none
clash_aside asked h (Some k) = asked_aside (get_or asked k.0 0) k.1 (slice_get (reverse h) k.0)

way_aside : (asked : List ℕ) (k : CoreState) (u : ℕ) (c : Command) → IsAside (way_notes asked k u c)
way_aside asked k u c = clash_aside asked k.history (in_the_way k u (footprint c (tree_now k)))

-- ---- all that is told of a record

refusal_aside : (begun : List (List ℕ)) (asked : List ℕ) (k : CoreState) (c : Command) (r : Refusal) → AreOnLine begun → IsAside (refusal_notes begun asked k c r)
refusal_aside begun asked k c (refusals.Busy t) h = aside_both (busy_note begun t.0) (way_notes asked k t.0 c) (busy_aside begun t.0 h) (way_aside asked k t.0 c)
refusal_aside begun asked k c r h = command_aside (tree_now k) c r

record_aside : (begun : List (List ℕ)) (asked : List ℕ) (k : CoreState) (r : Request cgroups) (a : Answer) → AreOnLine begun → IsAside (record_notes begun asked k r a)
record_aside begun asked k (Do c) (Refused r) h = refusal_aside begun asked k c r h
record_aside begun asked k _ _ h = aside_none

newest_aside : (begun : List (List ℕ)) (asked : List ℕ) (k : CoreState) (h : History cgroups) → AreOnLine begun → IsAside (newest_notes begun asked k h)
newest_aside begun asked k [] on = aside_none
newest_aside begun asked k (r ∷ h) on = record_aside begun asked k r.request r.answer on

notes_aside : (is_wanted : Bool) (n : ℕ) (begun : List (List ℕ)) (asked : List ℕ) (c : CoreState) → AreOnLine begun → IsAside (notes_text is_wanted n begun asked c)
notes_aside is_wanted n begun asked c on = aside_where (is_wanted && nat_lt n (length c.history)) _ (newest_aside begun asked c c.history on)

-- ---- all lines

-- the plain answers to lines, which are left of what is told
record LeavesPlain (s t : Explainer) (lines : List (List ℕ)) (told : List ℕ) : Type 0 where
  plain : List ℕ
  answered : EachAnswers Answers s.player lines plain t.player
  left : (rest : List ℕ) → without_comments (told ++ rest) ≡ plain ++ without_comments rest

leaves_plain : (lines : List (List ℕ)) (s t : Explainer) (told : List ℕ) → AreOnLine s.begun → AllByRecursion IsOnLine lines → EachAnswers Explains s lines told t → LeavesPlain s t lines told
leaves_plain [] s t told began on h = record {
  plain = [];
  answered = (refl, ap (λ (e : Explainer). e.player) h.1);
  left = λ rest. ap (λ x. without_comments (x ++ rest)) h.0;
}
leaves_plain (line ∷ lines) s t told began on h =
    let first : List ℕ = h.0 in
    let others : List ℕ = h.1 in
    let u : Explainer = h.2 in
    let e = h.3 in
    let begun : AreOnLine u.begun =
    subst (λ (x : Explainer). AreOnLine x.begun) (sym e.3) (still_on_line s.begun (behind_answer s e.1 (length s.player.core.history) (shown_line line) e.0).lines (shown_line line) e.0 began (shown_on_line line on.0))
    in
    let more : LeavesPlain u t lines others = leaves_plain lines u t others begun on.1 h.4 in
    let here : u.player ≡ e.1 = ap (λ (x : Explainer). x.player) e.3 in record {
      plain = e.0 ++ more.plain;
      answered = (e.0, more.plain, e.1, e.2, subst (λ r. EachAnswers Answers r lines more.plain t.player) here more.answered, refl);
      left = λ rest.
          ap (λ x. without_comments (x ++ rest)) h.5
          ∙ ap without_comments (append_assoc first others rest)
          ∙ ap (λ x. without_comments (x ++ (others ++ rest))) e.4
          ∙ ap without_comments (append_assoc (told_text u (shown_line line) e.0) (notes_text s.comments.explain (length s.player.core.history) u.begun u.asked e.1.core) (others ++ rest))
          ∙ told_left s u e.1 line e.0 (notes_text s.comments.explain (length s.player.core.history) u.begun u.asked e.1.core ++ (others ++ rest)) on.0 e.2
          ∙ ap (λ x. e.0 ++ x) (notes_aside s.comments.explain (length s.player.core.history) u.begun u.asked e.1.core begun (others ++ rest))
          ∙ ap (λ x. e.0 ++ x) (more.left rest)
          ∙ sym (append_assoc e.0 more.plain (without_comments rest));
    }

pub comments_stand_aside : CommentsStandAside
comments_stand_aside comments T limit text is_refused out o =
    let left = leaves_plain (lines_of text) (opened_with comments T limit) o.last o.told tt (lines_on_line text) o.answered in
    let plain : without_comments o.told ≡ left.plain = ap without_comments (sym (append-nil o.told)) ∙ left.left [] ∙ append-nil left.plain in (
      o.told,
      ending_text o.last.player.core,
      o.whole,
      record { answers = without_comments o.told; last = o.last.player; answered = subst (λ x. EachAnswers Answers (opened T limit) (lines_of text) x o.last.player) (sym plain) left.answered; whole = refl },
    )
