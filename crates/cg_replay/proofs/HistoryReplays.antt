-- The text of a history, replayed: the lines of a text are one row of turns, and so its output is known.
use Rattle.std.proofs.Common.{◌≡◌, ℕ, List, [], ◌∷◌, ◌++◌, Some, None, refl, sym, ap, subst, ◌∙◌}
use Rattle.std.proofs.lemmas.Option.{none-some, same_Some}
use Rattle.cg_text.specs.Words.{lines_of}
use Rattle.cg_model.specs.Cgroups.{cgroups}
use Rattle.cg_model.specs.History.{Request, Answer}
use Rattle.cg_model.specs.Machine.{opened}
use Rattle.cg_model.specs.Output.{output}
use Rattle.cg_world_text.specs.World.{world_text}
use Rattle.cg_script.specs.Answer.{answer_text}
use Rattle.cg_script.specs.HistoryText.{history_text, renumbered, turns_of}
use Rattle.cg_replay.specs.HistoryReplay.{HistoriesAreReplayed}
use Rattle.cg_script.specs.Turns.{Turn, Skip, Ask, Fail, IsTurn, AreTurns, asked, session_number, with_name}
use Rattle.cg_replay.specs.MachineOutput.{answer_lines, written}
use Rattle.cg_script.specs.Request.{newline}
use Rattle.cg_script.proofs.HistoryTurns.{histories_are_read}
use Rattle.cg_replay.proofs.MachineOutputs.{outputs_are_the_machines}
use Rattle.cg_script.proofs.OneLine.{line_one}

-- ---- lines are one row of turns

-- the same turn, and the same names behind it
abbrev IsSame : Turn → Turn → List (List ℕ) → List (List ℕ) → Type 0
IsSame t u b c = (t ≡ u) × (b ≡ c)

turn_one : (names : List (List ℕ)) (line : List ℕ) (t u : Turn) (b c : List (List ℕ)) → IsTurn names line t b → IsTurn names line u c → IsSame t u b c
turn_one names line Skip Skip b c h k = (refl, h.1 ∙ sym k.1)
turn_one names line Skip (Ask j q) b c h k = absurd (none-some _ (line_one line None (Some (k.0, q)) h.0 k.1))
turn_one names line Skip Fail b c h k = absurd (k.0 None h.0)
turn_one names line (Ask i r) Skip b c h k = absurd (none-some _ (line_one line None (Some (h.0, r)) k.0 h.1))
turn_one names line (Ask i r) (Ask j q) b c h k =
    let call : (h.0, r) ≡ (k.0, q) = same_Some _ _ (line_one line (Some (h.0, r)) (Some (k.0, q)) h.1 k.1) in
    let name : h.0 ≡ k.0 = ap (λ (p : List ℕ × Request cgroups). p.0) call in
    let number : i ≡ j = same_Some _ _ (sym h.2 ∙ ap (session_number names) name ∙ k.2) in
    ((λ x. Ask (number x) (call x).1), h.3 ∙ ap (with_name names) name ∙ sym k.3)
turn_one names line (Ask i r) Fail b c h k = absurd (none-some _ (sym (k.0 (Some (h.0, r)) h.1) ∙ h.2))
turn_one names line Fail Skip b c h k = absurd (h.0 None k.0)
turn_one names line Fail (Ask j q) b c h k = absurd (none-some _ (sym (h.0 (Some (k.0, q)) k.1) ∙ k.2))
turn_one names line Fail Fail b c h k = (refl, h.1 ∙ sym k.1)

pub turns_one : (lines : List (List ℕ)) (names : List (List ℕ)) (ts us : List Turn) → AreTurns names lines ts → AreTurns names lines us → ts ≡ us
turns_one [] names [] [] h k = refl
turns_one [] names [] (u ∷ us) h k = absurd k
turns_one [] names (t ∷ ts) us h k = absurd h
turns_one (line ∷ lines) names [] us h k = absurd h
turns_one (line ∷ lines) names (t ∷ ts) [] h k = absurd k
turns_one (line ∷ lines) names (t ∷ ts) (u ∷ us) h k =
    let first = turn_one names line t u h.0 k.0 h.1 k.1 in
    let others = turns_one lines h.0 ts us h.2 (subst (λ c. AreTurns c lines us) (sym first.1) k.2) in
    λ i. first.0 i ∷ others i

-- ---- what is written for a history's text

-- no line is refused, and the answers stand one after another
pub written_of : (calls : List (ℕ × Request cgroups)) (answers : List Answer) → written (turns_of calls) answers ≡ answer_lines answers
written_of [] answers = refl
written_of (c ∷ calls) [] = written_of calls []
written_of (c ∷ calls) (a ∷ answers) = ap (λ w. (answer_text a ++ newline) ++ w) (written_of calls answers)

pub histories_are_replayed : HistoriesAreReplayed
histories_are_replayed h few readable T limit out sound is =
    let m = outputs_are_the_machines T limit (history_text h) out sound is in
    let told = histories_are_read h few readable in
    let same : m.turns ≡ turns_of (renumbered h) = turns_one (lines_of (history_text h)) [] m.turns (turns_of (renumbered h)) m.told told.0 in
    let o = output cgroups (opened cgroups T limit) (renumbered h) in
    m.whole
    ∙ ap (λ ts. let p = output cgroups (opened cgroups T limit) (asked ts) in written ts p.0 ++ world_text p.1.tree) same
    ∙ ap (λ calls. let p = output cgroups (opened cgroups T limit) calls in written (turns_of (renumbered h)) p.0 ++ world_text p.1.tree) told.1
    ∙ ap (λ w. w ++ world_text o.1.tree) (written_of (renumbered h) o.0)
