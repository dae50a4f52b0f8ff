-- The text of a schedule has one output over a tree and a limit: one at most, and it can't have none.
use Rattle.std.proofs.Common.{◌≡◌, ℕ, List, [], ◌∷◌, ◌++◌, Option, Some, None, refl, sym, ap, ◌∙◌, inl, inr}
use Rattle.cg_name.specs.Refusal.{refusal_text}
use Rattle.cg_name.specs.declared.refusal.Refusal.TheVariants.{Syntax}
use Rattle.cg_text.specs.Words.{lines_of}
use Rattle.cg_core.specs.State.{after}
use Rattle.cg_model.specs.Cgroups.{cgroups}
use Rattle.cg_model.specs.History.{Request}
use Rattle.cg_script.specs.Request.{SpellsLine, newline}
use Rattle.cg_replay.specs.Replay.{Replay, answer_line, Answers, AnswersAll, ending_text, opened, OneOutput, SomeOutput}
use Rattle.cg_script.specs.Turns.{IsOneTooMany, session_number, with_name}
use Rattle.cg_replay.proofs.Answered.{each_one}
use Rattle.cg_replay.proofs.Playing.{answers_one}

-- ---- one output at most

pub one_output : OneOutput
one_output T limit text a b x y =
    let same = each_one Answers answers_one (lines_of text) (opened T limit) x.last y.last x.answers y.answers x.answered y.answered in
    x.whole ∙ ap (λ w. w ++ ending_text x.last.core) same.0 ∙ ap (λ (r : Replay). y.answers ++ ending_text r.core) same.1 ∙ sym y.whole

-- ---- there can't be none

abbrev Surely : Type 0 → Type 0
Surely A = (A → ⊥) → ⊥

abbrev Answered : Replay → List ℕ → Type 0
Answered s line = (out : List ℕ) × (t : Replay) × Answers s line out t

-- a line that has no answer has none as a line outside the grammar
too_many : (s : Replay) (line : List ℕ) → (Answered s line → ⊥) → (c : List ℕ × Request cgroups) → SpellsLine line (Some c) → (k : Option ℕ) → session_number s.names c.0 ≡ k → session_number s.names c.0 ≡ None
too_many s line none c h None e = e
too_many s line none c h (Some k) e =
    absurd (none (answer_line s.core k c.1, record { names = with_name s.names c.0; core = after s.core k c.1 }, inr (inl (c.0, c.1, k, h, (e, refl, refl)))))

outside : (s : Replay) (line : List ℕ) → (Answered s line → ⊥) → (call : Option (List ℕ × Request cgroups)) → SpellsLine line call → IsOneTooMany s.names call
outside s line none None h = none ([], s, inl (h, refl, refl))
outside s line none (Some c) h = too_many s line none c h (session_number s.names c.0) refl

surely_answered : (s : Replay) (line : List ℕ) → Surely (Answered s line)
surely_answered s line none = none (refusal_text Syntax ++ newline, s, inr (inr (outside s line none, refl, refl)))

abbrev AllAnswered : Replay → List (List ℕ) → Type 0
AllAnswered s lines = (out : List ℕ) × (t : Replay) × AnswersAll s lines out t

surely_all : (lines : List (List ℕ)) (s : Replay) → Surely (AllAnswered s lines)
surely_all [] s none = none ([], s, (refl, refl))
surely_all (line ∷ lines) s none =
    surely_answered s line (λ first.
    surely_all lines first.1 (λ others.
    none (first.0 ++ others.0, others.1, (first.0, others.0, first.1, first.2, others.2, refl))))

pub some_output : SomeOutput
some_output T limit text none =
    surely_all (lines_of text) (opened T limit) (λ all.
    none (all.0 ++ ending_text all.1.core) (record { answers = all.0; last = all.1; answered = all.2; whole = refl }))
