-- A line is told of once, and so is the end.
use Rattle.std.proofs.Common.{◌≡◌, ℕ, List, [], ◌∷◌, ◌++◌, Some, None, Option, refl, sym, ap, subst, ◌∙◌, inl, inr}
use Rattle.std.proofs.lemmas.Option.{none-some, same_Some}
use Rattle.cg_core.specs.State.{after}
use Rattle.cg_history.specs.SessionMap.{oldest}
use Rattle.cg_lines.specs.Device.{more}
use Rattle.cg_model.specs.Cgroups.{cgroups}
use Rattle.cg_model.specs.History.{Request}
use Rattle.cg_model.specs.Opens.{opens}
use Rattle.cg_replay.proofs.Answered.{IsOneAnswer}
use Rattle.cg_replay.specs.Replay.{Replay}
use Rattle.cg_script.proofs.OneLine.{line_one}
use Rattle.cg_script.specs.Turns.{session_number, with_name}
use Rattle.cg_json_program.specs.Output.{behind, text_of, Tells}
use Rattle.cg_json_program.specs.Steps.{aborted, told_asked, told_end, Aborts, HasNoneOpen, Steps}
use Rattle.cg_json_program.specs.Report.{Report}

steps_one : (s t u : Replay) (i : ℕ) (line : List ℕ) (a b : Option Report) → Steps s i line a t → Steps s i line b u → (a ≡ b) × (t ≡ u)
steps_one s t u i line a b (inl h) (inl k) = (h.1 ∙ sym k.1, h.2 ∙ sym k.2)
steps_one s t u i line a b (inl h) (inr (inl k)) = absurd (none-some _ (line_one line None (Some (k.0, k.1)) h.0 k.3))
steps_one s t u i line a b (inl h) (inr (inr k)) = absurd (k.0 None h.0)
steps_one s t u i line a b (inr (inl h)) (inl k) = absurd (none-some _ (line_one line None (Some (h.0, h.1)) k.0 h.3))
steps_one s t u i line a b (inr (inl h)) (inr (inl k)) =
    let call : ◌≡◌ {A = List ℕ × Request cgroups} (h.0, h.1) (k.0, k.1) = same_Some _ _ (line_one line (Some (h.0, h.1)) (Some (k.0, k.1)) h.3 k.3) in
    let name : h.0 ≡ k.0 = ap (λ c. c.0) call in
    let request : h.1 ≡ k.1 = ap (λ c. c.1) call in
    let number : h.2 ≡ k.2 = same_Some _ _ (sym h.4.0 ∙ ap (session_number s.names) name ∙ k.4.0) in (
      h.4.1 ∙ (λ j. Some (told_asked i (name j) s.core (number j) (request j))) ∙ sym k.4.1,
      h.4.2 ∙ (λ j. record { names = with_name s.names (name j); core = after s.core (number j) (request j) }) ∙ sym k.4.2,
    )
steps_one s t u i line a b (inr (inl h)) (inr (inr k)) = absurd (none-some _ (sym (k.0 (Some (h.0, h.1)) h.3) ∙ h.4.0))
steps_one s t u i line a b (inr (inr h)) (inl k) = absurd (h.0 None k.0)
steps_one s t u i line a b (inr (inr h)) (inr (inl k)) = absurd (none-some _ (sym (h.0 (Some (k.0, k.1)) k.3) ∙ k.4.0))
steps_one s t u i line a b (inr (inr h)) (inr (inr k)) = (h.1 ∙ sym k.1, h.2 ∙ sym k.2)

pub tells_one : IsOneAnswer Tells
tells_one s t u line a b x y =
    let same = steps_one s.player x.1 y.1 (more s.lines) line x.0 y.0 x.2 y.2 in
    (x.4 ∙ ap text_of same.0 ∙ sym y.4, x.3 ∙ (λ j. behind s (same.0 j) (same.1 j)) ∙ sym y.3)

-- some is open, so that nothing ends here
goes_on : (s t : Replay) (k : ℕ) {A : Type 0} → oldest (opens s.core.history) ≡ Some k → t ≡ s → HasNoneOpen t → A
goes_on s t k e same none = absurd (none-some _ (sym none ∙ ap (λ (r : Replay). oldest (opens r.core.history)) same ∙ e))

pub aborts_one : (xs ys : List Report) (s t u : Replay) → Aborts s xs t → HasNoneOpen t → Aborts s ys u → HasNoneOpen u → (xs ≡ ys) × (t ≡ u)
aborts_one [] [] s t u h none k nobody = (refl, h ∙ sym k)
aborts_one [] (y ∷ ys) s t u h none k nobody = goes_on s t k.0 k.1 h none
aborts_one (x ∷ xs) [] s t u h none k nobody = goes_on s u h.0 h.1 k nobody
aborts_one (x ∷ xs) (y ∷ ys) s t u h none k nobody =
    let number : h.0 ≡ k.0 = same_Some _ _ (sym h.1 ∙ k.1) in
    let rest = aborts_one xs ys (aborted s h.0) t u h.3 none (subst (λ n. Aborts (aborted s n) ys u) (sym number) k.3) nobody in
    ((λ j. (h.2 ∙ ap (told_end s) number ∙ sym k.2) j ∷ rest.0 j), rest.1)

-- one more aborts
pub aborts_more : (xs : List Report) (s t : Replay) (k : ℕ) → Aborts s xs t → oldest (opens t.core.history) ≡ Some k → Aborts s (xs ++ told_end t k ∷ []) (aborted t k)
aborts_more [] s t k h e =
    (k, ap (λ (r : Replay). oldest (opens r.core.history)) (sym h) ∙ e, ap (λ r. told_end r k) h, ap (λ r. aborted r k) h)
aborts_more (x ∷ xs) s t k h e = (h.0, h.1, h.2, aborts_more xs (aborted s h.0) t k h.3 e)
