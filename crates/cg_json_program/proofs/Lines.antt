-- What a line tells, where the schedule stands thus, and what the end does.
use Rattle.std.proofs.Common.{◌≡◌, ◌⊎◌, ℕ, ◌+◌, ◌-◌, ◌≤◌, ◌<◌, ◌||◌, Bool, true, false, List, [], ◌∷◌, ◌++◌, Some, None, Option, drop, take, length, refl, sym, ap, subst, ◌∙◌, inl, inr, arith}
use Rattle.std.proofs.Math.Seq.{drop-append-add}
use Rattle.std.proofs.lemmas.List.{length-drop, take_all}
use Rattle.std.proofs.lemmas.Option.{none-some, same_Some}
use Rattle.cg_core.specs.State.{CoreState, reply}
use Rattle.cg_history.specs.SessionMap.{oldest}
use Rattle.cg_lines.specs.Device.{more}
use Rattle.cg_model.specs.Cgroups.{cgroups}
use Rattle.cg_model.specs.History.{Answer, Request}
use Rattle.cg_model.specs.Opens.{opens, transaction_in}
use Rattle.cg_replay.specs.Replay.{Replay}
use Rattle.cg_script.proofs.OneLine.{line_one}
use Rattle.cg_script.specs.Request.{SpellsLine, request_text}
use Rattle.cg_script.specs.Turns.{IsOneTooMany, session_number}
use Rattle.cg_json_program.specs.Output.{is_refused, Tells, TellsCall}
use Rattle.cg_json_program.specs.Steps.{aborted, said_end, said_to, told_bad, Asked, AsksAs, EndsOf, EndsOldest, Steps}
use Rattle.cg_json_program.specs.Report.{Said, Report, told_in, told_line}
use Rattle.cg_json_program.specs.declared.reporter.Reporter.{Reporter}

or_false : (b : Bool) → b ≡ (b || false)
or_false true = refl
or_false false = refl

or_true : (b : Bool) → true ≡ (b || true)
or_true true = refl
or_true false = refl

-- ---- a call

pub call_bad : (s t : Reporter) (n : List ℕ) (r : Request cgroups) (said : Option Said) (p : Replay) (out : List ℕ) → Asked s.player n r said p → said ≡ None → t ≡ record { player = p; lines = s.lines; is_refused = true } → out ≡ told_line (told_bad s.lines)
    → TellsCall s n r out t
call_bad s t n r said p out (inl h) none state text = absurd (none-some _ (sym none ∙ h.2))
call_bad s t n r said p out (inr h) none state text =
    (told_bad s.lines, p, inr (h.0, refl, h.2), state ∙ (λ i. record { player = p; lines = s.lines; is_refused = or_true s.is_refused i }), text)

pub call_asked : (s t : Reporter) (n words : List ℕ) (r : Request cgroups) (given : Option Said) (said : Said) (p : Replay) (out : List ℕ) → Asked s.player n r given p → given ≡ Some said → words ≡ request_text r
    → t ≡ record { player = p; lines = s.lines; is_refused = s.is_refused || is_refused said.answer } → out ≡ told_line (record { line = Some s.lines; request = Some words; said = said }) → TellsCall s n r out t
call_asked s t n words r given said p out (inl h) some short state text =
    let same : said ≡ said_to (Some n) s.player.core h.0 r = same_Some _ _ (sym some ∙ h.2) in
    (record { line = Some s.lines; request = Some words; said = said }, p, inl (h.0, (h.1, (λ i. Some (record { line = Some s.lines; request = Some (short i); said = same i })), h.3)), state, text)
call_asked s t n words r given said p out (inr h) some short state text = absurd (none-some _ (sym h.1 ∙ some))

-- ---- a line

pub line_silent : (s : Reporter) (i : ℕ) (line out : List ℕ) → SpellsLine line None → i ≡ more s.lines → out ≡ [] → Tells s line out (record { player = s.player; lines = i; is_refused = s.is_refused })
line_silent s i line out spelled counted text =
    (None, s.player, inl (spelled, refl, refl), (λ j. record { player = s.player; lines = counted j; is_refused = or_false s.is_refused j }), text)

call_steps : (s p : Replay) (i : ℕ) (line n : List ℕ) (r : Request cgroups) (told : Report) → SpellsLine line (Some (n, r))
    → ((k : ℕ) × AsksAs s i n r k (Some told) p) ⊎ ((session_number s.names n ≡ None) × (told ≡ told_bad i) × (p ≡ s)) → Steps s i line (Some told) p
call_steps s p i line n r told spelled (inl h) = inr (inl (n, r, h.0, spelled, h.1))
call_steps s p i line n r told spelled (inr h) =
    inr (inr ((λ call k. subst (IsOneTooMany s.names) (line_one line (Some (n, r)) call spelled k) h.0), ap (λ x. Some x) h.1, h.2))

line_counted : (s t : Reporter) (line n out : List ℕ) (r : Request cgroups) → SpellsLine line (Some (n, r)) → TellsCall (record s { lines = more s.lines }) n r out t → Tells s line out t
line_counted s t line n out r spelled h = (Some h.0, h.1, call_steps s.player h.1 (more s.lines) line n r h.0 spelled h.2, h.3, h.4)

pub line_asked : (s t : Reporter) (i : ℕ) (line n out : List ℕ) (r : Request cgroups) → SpellsLine line (Some (n, r)) → i ≡ more s.lines → TellsCall (record s { lines = i }) n r out t → Tells s line out t
line_asked s t i line n out r spelled counted h =
    line_counted s t line n out r spelled (subst (λ k. TellsCall (record s { lines = k }) n r out t) counted h)

pub line_bad : (s t : Reporter) (i : ℕ) (line out : List ℕ) → ((call : Option (List ℕ × Request cgroups)) → SpellsLine line call → ⊥) → i ≡ more s.lines → t ≡ record { player = s.player; lines = i; is_refused = true } → out ≡ told_line (told_bad i)
    → Tells s line out t
line_bad s t i line out outside counted state text = (
  Some (told_bad (more s.lines)),
  s.player,
  inr (inr ((λ call k. absurd (outside call k)), refl, refl)),
  state ∙ (λ j. record { player = s.player; lines = counted j; is_refused = or_true s.is_refused j }),
  text ∙ ap (λ k. told_line (told_bad k)) counted,
)

-- a line that is too long says nothing and asks nothing
pub too_long : (line : List ℕ) (call : Option (List ℕ × Request cgroups)) → 65536 < length line → SpellsLine line call → ⊥
too_long line None long k = let short : length line ≤ 65536 = k.0.short in omega (arith, long, short)
too_long line (Some c) long k = let short : length line ≤ 65536 = k.1.0.short in omega (arith, long, short)

-- the words of a request stand behind the session's name and a space
pub words_behind : (line n r : List ℕ) → line ≡ n ++ 32 ∷ r → take (length line - (length n + 1)) (drop (length n + 1) line) ≡ r
words_behind line n r e =
    let k : ℕ = length n + 1 in
    let all : length (drop k line) ≤ length line - k = omega (arith, length-drop k line) in
    take_all (length line - k) (drop k line) all ∙ ap (drop k) e ∙ drop-append-add n (32 ∷ r) 1

-- ---- the end

pub said_is : (session name : Option (List ℕ)) (txn before : Option ℕ) (a : Answer) (c : CoreState) (k : ℕ) (r : Request cgroups) → session ≡ name → txn ≡ told_in before a → before ≡ transaction_in k (opens c.history) → a ≡ reply c k r
    → record { session = session; transaction = txn; answer = a } ≡ said_to name c k r
said_is session name txn before a c k r e f g h = λ i. record { session = e i; transaction = (f ∙ (λ j. told_in (g j) (h j))) i; answer = h i }

pub ends_as : (s : Replay) (k : ℕ) (said : Said) (t : Replay) → Some k ≡ oldest (opens s.core.history) → said ≡ said_end s k → t ≡ aborted s k → EndsOldest s (Some said) t
ends_as s k said t least e f = subst (λ o. EndsOf s o (Some said) t) least (ap (λ x. Some x) e, f)
