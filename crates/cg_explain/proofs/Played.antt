-- A schedule that is played with comments gives its explained output, and nothing else.
use Rattle.std.proofs.Common.{◌≡◌, ℕ, Bool, List, ◌++◌, length, Some, None, Option, IfSome, refl, sym, ap, subst, ◌∙◌}
use Rattle.std.specs.Io.KnownBytes.{Appends, Keeps}
use Rattle.cg_core.specs.State.{CoreState}
use Rattle.cg_text.specs.Words.{lines_of}
use Rattle.cg_lines.specs.Device.{AppendsFront, AppendsTo}
use Rattle.cg_lines.proofs.DeviceLemmas.{AppendsFront-nil, AppendsTo-behind, AppendsTo-front, AppendsTo-whole}
use Rattle.cg_replay.specs.Answering.{EachAnswers, FrontAnswers}
use Rattle.cg_replay.specs.Replay.{Replay, Answers, core_ended, ending_text}
use Rattle.cg_replay.proofs.Answered.{each_one, front_of_all, IsOneAnswer}
use Rattle.cg_replay.proofs.Playing.{answers_one}
use Rattle.cg_explain.specs.Explained.{behind_answer, notes_text, shown_line, told_text, Explains, IsExplainedFrom}
use Rattle.cg_explain.specs.Run.{PlaysExplainedFrom}
use Rattle.cg_explain.specs.declared.explainer.Explainer.{Explainer}

-- a line is told once
pub explains_one : IsOneAnswer Explains
explains_one s t u line a b x y =
    let same = answers_one s.player x.1 y.1 line x.0 y.0 x.2 y.2 in
    let behind : t ≡ u = x.3 ∙ (λ i. behind_answer s (same.1 i) (length s.player.core.history) (shown_line line) (same.0 i)) ∙ sym y.3 in
    (x.4 ∙ (λ i. told_text (behind i) (shown_line line) (same.0 i) ++ notes_text s.comments.explain (length s.player.core.history) (behind i).begun (behind i).asked (same.1 i).core) ∙ sym y.4, behind)

-- what was written is the front of any explained output of the text
abbrev pub FrontOf : Explainer → Option (List ℕ) → Option (List ℕ) → Option (List ℕ) → Type 0
FrontOf s text a b = IfSome text (λ x. (is_refused : Bool) (out : List ℕ) → IsExplainedFrom s x is_refused out → AppendsFront a b out)

pub front_answers : (s : Explainer) (text a b : Option (List ℕ)) → IfSome text (λ x. FrontAnswers Explains s x a b) → FrontOf s text a b
front_answers s None a b h = tt
front_answers s (Some text) a b h = λ is_refused out o.
    subst (λ bytes. AppendsFront a b bytes) (sym o.whole) (front_of_all Explains explains_one s o.last text o.told (ending_text o.last.player.core) a b h o.answered)

-- all lines are told, and what is told is written, but for what waits
abbrev pub AllTold : Explainer → Option (List ℕ) → Option (List ℕ) → Option (List ℕ) → List ℕ → Explainer → Type 0
AllTold s text a b waiting t = IfSome text (λ x. (told : List ℕ) × EachAnswers Explains s (lines_of x) told t × AppendsTo a b told waiting)

-- then what waits is written, and the end
pub whole_end : (s t : Explainer) (text a b c : Option (List ℕ)) (waiting : List ℕ) (is_refused : Bool) (d : CoreState) → AllTold s text a b waiting t → is_refused ≡ t.is_refused → Appends b c (waiting ++ ending_text t.player.core) → d ≡ core_ended t.player.core
    → IfSome text (λ x. (out : List ℕ) × PlaysExplainedFrom s x is_refused out d.history × Appends a c out)
whole_end s t None a b c waiting is_refused d p e w k = tt
whole_end s t (Some text) a b c waiting is_refused d p e w k = (
  p.0 ++ ending_text t.player.core,
  (record { told = p.0; last = t; answered = p.1; whole = refl; refused = e }, ap (λ (c : CoreState). c.history) k),
  AppendsTo-whole a b c (p.0 ++ ending_text t.player.core) (waiting ++ ending_text t.player.core) (AppendsTo-behind a b p.0 waiting (ending_text t.player.core) p.2) w,
)

-- or the front of that
pub front_end : (s t : Explainer) (text a b c : Option (List ℕ)) (waiting : List ℕ) → AllTold s text a b waiting t → AppendsFront b c (waiting ++ ending_text t.player.core) → FrontOf s text a c
front_end s t None a b c waiting p w = tt
front_end s t (Some text) a b c waiting p w = λ is_refused out o.
    let same = each_one Explains explains_one (lines_of text) s o.last t o.told p.0 o.answered p.1 in
    subst (λ bytes. AppendsFront a c bytes) (sym (o.whole ∙ (λ i. same.0 i ++ ending_text (same.1 i).player.core)))
    (AppendsTo-front a b c (p.0 ++ ending_text t.player.core) (waiting ++ ending_text t.player.core) (AppendsTo-behind a b p.0 waiting (ending_text t.player.core) p.2) w)

pub front_nothing : (s : Explainer) (text a : Option (List ℕ)) → FrontOf s text a a
front_nothing s None a = tt
front_nothing s (Some text) a = λ is_refused out o. AppendsFront-nil a a out (kept a)
  where
    kept : (o : Option (List ℕ)) → Keeps o o
    kept None = tt
    kept (Some xs) = refl

-- what is told of a line explains it
pub explains_told : (s u : Explainer) (p : Replay) (line written a b shown told : List ℕ) (before : ℕ) → Answers s.player line written p → a ≡ written → b ≡ written → u ≡ behind_answer s p before shown a → shown ≡ shown_line line → before ≡ length s.player.core.history
    → told ≡ told_text u shown b ++ notes_text u.comments.explain before u.begun u.asked u.player.core → Explains s line told u
explains_told s u p line written a b shown told before answers is same behind short n e =
    let state : u ≡ behind_answer s p (length s.player.core.history) (shown_line line) written = behind ∙ (λ i. behind_answer s p (n i) (short i) (is i)) in
    (written, p, answers, state, e ∙ (λ i. told_text u (short i) (same i) ++ notes_text (state i).comments.explain (n i) u.begun u.asked (state i).player.core))
