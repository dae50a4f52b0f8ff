-- What a session's request is given, its line is given, and a replay writes that.
use Rattle.std.proofs.Common.{ℕ, List, Option, Some, None, Result, Ok, Err, IfOk, refl, sym, ap, subst, inl, inr}
use Rattle.std.specs.Option.{option_map}
use Rattle.std.proofs.lemmas.Option.{none-some}
use Rattle.cg_history.specs.Meaning.{answer_of}
use Rattle.cg_history.specs.declared.record.Answer as code
use Rattle.cg_model.specs.Cgroups.{cgroups}
use Rattle.cg_model.specs.History.{Request, Answer, Refused}
use Rattle.cg_name.specs.declared.refusal.Refusal.TheVariants.{Syntax}
use Rattle.cg_replay.specs.Replay.{Replay, Answers, IsAnswered}
use Rattle.cg_script.proofs.OneLine.{line_one}
use Rattle.cg_script.specs.Request.{SpellsLine}
use Rattle.cg_script.specs.Turns.{IsOneTooMany}
use Rattle.cg_line_machine.specs.Steps.{Asked, Steps, line_of}

-- what a player answers is given
pub asked_answered : (s t : Replay) (n : List ℕ) (r : Request cgroups) (a : Answer) → IsAnswered s n r (Some a) t → Asked s n r (Some a) t
asked_answered s t n r a (inl h) = inl h
asked_answered s t n r a (inr h) = absurd (none-some a (sym h.1))

-- and a name too many is refused
pub asked_too_many : (s t : Replay) (n : List ℕ) (r : Request cgroups) → IsAnswered s n r None t → Asked s n r (Some (Refused Syntax)) t
asked_too_many s t n r (inl h) = absurd (none-some _ h.1.1)
asked_too_many s t n r (inr h) = inr (h.0, refl, h.2)

steps_asked : (s t : Replay) (line n : List ℕ) (r : Request cgroups) (given : Option Answer) → SpellsLine line (Some (n, r)) → Asked s n r given t → Steps s line given t
steps_asked s t line n r given spelled (inl asked) = inr (inl (n, r, asked.0, spelled, asked.1))
steps_asked s t line n r given spelled (inr many) =
    inr (inr ((λ call h. subst (IsOneTooMany s.names) (line_one line (Some (n, r)) call spelled h) many.0), many.1, many.2))

replayed : (s t : Replay) (line : List ℕ) (given : Option Answer) → Steps s line given t → Answers s line (line_of given) t
replayed s t line given (inl h) = inl (h.0, ap line_of h.1, h.2)
replayed s t line given (inr (inl h)) = inr (inl (h.0, h.1, h.2, h.3, (h.4.0, ap line_of h.4.1, h.4.2)))
replayed s t line given (inr (inr h)) = inr (inr (h.0, ap line_of h.1, h.2))

-- of what a call gives: its error says nothing
pub ok_steps : {E : Type 0} (s t : Replay) (line n : List ℕ) (r : Request cgroups) (result : Result (Option code.Answer) E) → SpellsLine line (Some (n, r))
    → IfOk result (λ a. Asked s n r (option_map answer_of a) t) → IfOk result (λ a. Steps s line (option_map answer_of a) t)
ok_steps s t line n r (Ok a) spelled h = steps_asked s t line n r (option_map answer_of a) spelled h
ok_steps s t line n r (Err e) spelled h = tt

pub ok_replayed : {E : Type 0} (s t : Replay) (line : List ℕ) (result : Result (Option code.Answer) E)
    → IfOk result (λ a. Steps s line (option_map answer_of a) t) → IfOk result (λ a. Answers s line (line_of (option_map answer_of a)) t)
ok_replayed s t line (Ok a) h = replayed s t line (option_map answer_of a) h
ok_replayed s t line (Err e) h = tt
