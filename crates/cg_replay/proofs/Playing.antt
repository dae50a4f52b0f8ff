-- A schedule that is played gives its output, and nothing else.
use Rattle.std.proofs.Common.{◌≡◌, ℕ, ◌≤◌, ◌<◌, List, ◌++◌, length, Some, None, Ok, Err, Option, Result, IfSome, OnOk, refl, sym, ap, subst, ◌∙◌, inl, inr, arith}
use Rattle.std.proofs.lemmas.Option.{none-some, same_Some}
use Rattle.std.specs.Io.KnownBytes.{Appends, Keeps}
use Rattle.cg_name.specs.Refusal.{refusal_text}
use Rattle.cg_name.specs.declared.refusal.Refusal.TheVariants.{Syntax}
use Rattle.cg_core.specs.State.{CoreState, after}
use Rattle.cg_model.specs.Cgroups.{cgroups}
use Rattle.cg_model.specs.History.{Request}
use Rattle.cg_model.specs.Tree.{Tree}
use Rattle.cg_lines.specs.Device.{AppendsFront, AppendsTo}
use Rattle.cg_text.specs.Words.{lines_of, Says, Word}
use Rattle.cg_script.specs.Request.{SpellsLine, newline}
use Rattle.cg_replay.specs.Answering.{EachAnswers, FrontAnswers}
use Rattle.cg_replay.specs.Replay.{Replay, Answers, AnswersWords, IsOutputFrom, IsOutputAndHistory, IsOutputAndHistoryFrom, core_ended, ending_text, answer_line, opened}
use Rattle.cg_script.specs.Turns.{session_number, with_name, IsOneTooMany}
use Rattle.cg_lines.proofs.DeviceLemmas.{AppendsFront-nil, AppendsTo-front, AppendsTo-behind, AppendsTo-whole}
use Rattle.cg_script.proofs.OneLine.{call_of, line_one}
use Rattle.cg_replay.proofs.Answered.{each_one, front_of_all}

-- ---- a line has one answer

pub answers_one : (s t u : Replay) (line a b : List ℕ) → Answers s line a t → Answers s line b u → (a ≡ b) × (t ≡ u)
answers_one s t u line a b (inl h) (inl k) = (h.1 ∙ sym k.1, h.2 ∙ sym k.2)
answers_one s t u line a b (inl h) (inr (inl k)) = absurd (none-some _ (line_one line None (Some (k.0, k.1)) h.0 k.3))
answers_one s t u line a b (inl h) (inr (inr k)) = absurd (k.0 None h.0)
answers_one s t u line a b (inr (inl h)) (inl k) = absurd (none-some _ (line_one line None (Some (h.0, h.1)) k.0 h.3))
answers_one s t u line a b (inr (inl h)) (inr (inl k)) =
    let call : ◌≡◌ {A = List ℕ × Request cgroups} (h.0, h.1) (k.0, k.1) = same_Some _ _ (line_one line (Some (h.0, h.1)) (Some (k.0, k.1)) h.3 k.3) in
    let name : h.0 ≡ k.0 = ap (λ c. c.0) call in
    let request : h.1 ≡ k.1 = ap (λ c. c.1) call in
    let number : h.2 ≡ k.2 = same_Some _ _ (sym h.4.0 ∙ ap (session_number s.names) name ∙ k.4.0) in (
      h.4.1 ∙ (λ i. answer_line s.core (number i) (request i)) ∙ sym k.4.1,
      h.4.2 ∙ (λ i. record { names = with_name s.names (name i); core = after s.core (number i) (request i) }) ∙ sym k.4.2,
    )
answers_one s t u line a b (inr (inl h)) (inr (inr k)) = absurd (none-some _ (sym (k.0 (Some (h.0, h.1)) h.3) ∙ h.4.0))
answers_one s t u line a b (inr (inr h)) (inl k) = absurd (h.0 None k.0)
answers_one s t u line a b (inr (inr h)) (inr (inl k)) = absurd (none-some _ (sym (h.0 (Some (k.0, k.1)) k.3) ∙ k.4.0))
answers_one s t u line a b (inr (inr h)) (inr (inr k)) = (h.1 ∙ sym k.1, h.2 ∙ sym k.2)

-- what the words of a line are answered, the line is answered
pub answers_words : (s t : Replay) (line out : List ℕ) (ws : List Word) → Says line (Some ws) → AnswersWords s ws out t → Answers s line out t
answers_words s t line out ws says (inl asked) = inr (inl (asked.0, asked.1, asked.2, (ws, says, asked.3), asked.4))
answers_words s t line out ws says (inr refused) =
    inr (inr (
      (λ call h.
          let c = call_of line ws call says h in
          subst (IsOneTooMany s.names) (sym c.1) (refused.0 c.0.0 c.0.1 c.2)),
      refused.1,
      refused.2,
    ))

-- a line that is too long is refused
pub long_answered : (s : Replay) (line : List ℕ) → 65536 < length line → Answers s line (refusal_text Syntax ++ newline) s
long_answered s line long = inr (inr (refused, refl, refl))
  where
    too_long : (call : Option (List ℕ × Request cgroups)) → SpellsLine line call → length line ≤ 65536
    too_long None k = k.0.short
    too_long (Some c) k = k.1.0.short

    refused : (call : Option (List ℕ × Request cgroups)) → SpellsLine line call → IsOneTooMany s.names call
    refused call k = let short = too_long call k in absurd (omega arith)

-- ---- what was written, seen from the whole

-- what was written is the front of any output of the text
abbrev pub FrontOf : Replay → Option (List ℕ) → Option (List ℕ) → Option (List ℕ) → Type 0
FrontOf s text a b = IfSome text (λ x. (out : List ℕ) → IsOutputFrom s x out → AppendsFront a b out)

-- so is the front of the answers
pub front_answers : (s : Replay) (text a b : Option (List ℕ)) → IfSome text (λ x. FrontAnswers Answers s x a b) → FrontOf s text a b
front_answers s None a b h = tt
front_answers s (Some text) a b h = λ out o.
    subst (λ bytes. AppendsFront a b bytes) (sym o.whole) (front_of_all Answers answers_one s o.last text o.answers (ending_text o.last.core) a b h o.answered)

-- all lines are answered, and the answers are written, but for what waits
abbrev pub AllAnswered : Replay → Option (List ℕ) → Option (List ℕ) → Option (List ℕ) → List ℕ → Replay → Type 0
AllAnswered s text a b waiting t = IfSome text (λ x. (answers : List ℕ) × EachAnswers Answers s (lines_of x) answers t × AppendsTo a b answers waiting)

-- then what waits is written, and the end
pub whole_end : (s t : Replay) (text a b c : Option (List ℕ)) (waiting : List ℕ) (d : CoreState) → AllAnswered s text a b waiting t → Appends b c (waiting ++ ending_text t.core) → d ≡ core_ended t.core
    → IfSome text (λ x. (out : List ℕ) × IsOutputAndHistoryFrom s x out d.history × Appends a c out)
whole_end s t None a b c waiting d p w e = tt
whole_end s t (Some text) a b c waiting d p w e = (
  p.0 ++ ending_text t.core,
  (record { answers = p.0; last = t; answered = p.1; whole = refl }, ap (λ (c : CoreState). c.history) e),
  AppendsTo-whole a b c (p.0 ++ ending_text t.core) (waiting ++ ending_text t.core) (AppendsTo-behind a b p.0 waiting (ending_text t.core) p.2) w,
)

-- what holds by two facts of what came out well
pub both_ok : {B E P Q R : Type 0} (r : Result B E) → (P → Q → R) → OnOk r P → OnOk r Q → OnOk r R
both_ok (Ok b) f p q = f p q
both_ok (Err e) f p q = tt

-- an error is the same one, whatever could have come out in its place
pub err_again : {A B E : Type 0} (x y : E) → ◌≡◌ {A = Result A E} (Err x) (Err y) → ◌≡◌ {A = Result B E} (Err x) (Err y)
err_again x y e = let same : x ≡ y = cc in ap (λ z. Err z) same

-- so it is where the schedule was played from its first line on
pub played_whole : (T : Tree) (limit : ℕ) (s : Replay) (text was is : Option (List ℕ)) (c d : CoreState) → s ≡ opened T limit → d ≡ c
    → IfSome text (λ x. (out : List ℕ) × IsOutputAndHistoryFrom s x out c.history × Appends was is out) → IfSome text (λ x. (out : List ℕ) × IsOutputAndHistory T limit x out d.history × Appends was is out)
played_whole T limit s text was is c d first same h =
    subst (λ (k : CoreState). IfSome text (λ x. (out : List ℕ) × IsOutputAndHistory T limit x out k.history × Appends was is out)) (sym same)
    (subst (λ (r : Replay). IfSome text (λ x. (out : List ℕ) × IsOutputAndHistoryFrom r x out c.history × Appends was is out)) first h)

-- or the front of that
pub front_end : (s t : Replay) (text a b c : Option (List ℕ)) (waiting : List ℕ) → AllAnswered s text a b waiting t → AppendsFront b c (waiting ++ ending_text t.core) → FrontOf s text a c
front_end s t None a b c waiting p w = tt
front_end s t (Some text) a b c waiting p w = λ out o.
    let same = each_one Answers answers_one (lines_of text) s o.last t o.answers p.0 o.answered p.1 in
    subst (λ bytes. AppendsFront a c bytes) (sym (o.whole ∙ (λ i. same.0 i ++ ending_text (same.1 i).core)))
    (AppendsTo-front a b c (p.0 ++ ending_text t.core) (waiting ++ ending_text t.core) (AppendsTo-behind a b p.0 waiting (ending_text t.core) p.2) w)

pub front_nothing : (s : Replay) (text a : Option (List ℕ)) → FrontOf s text a a
front_nothing s None a = tt
front_nothing s (Some text) a = λ out o. AppendsFront-nil a a out (kept a)
  where
    kept : (o : Option (List ℕ)) → Keeps o o
    kept None = tt
    kept (Some xs) = refl
