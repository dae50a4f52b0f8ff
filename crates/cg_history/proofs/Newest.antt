-- Values by sessions, from the newest on.
use Rattle.std.proofs.Common.{inl, inr, ◌≡◌, ℕ, ◌-◌, ◌<◌, ◌≤◌, List, [], ◌∷◌, ◌++◌, length, map, Some, option_map, nat_lt, zero, suc, slice_get, refl, sym, ap, ◌∙◌, arith}
use Rattle.std.proofs.lemmas.Bool.{cases_Bool, ltb-true, ltb-false}
use Rattle.std.proofs.lemmas.List.{length-map, map-append}
use Rattle.cg_history.specs.declared.session.SessionId.{SessionId}
use Rattle.cg_history.specs.SessionMap.{by_session}
use Rattle.cg_history.proofs.BySession.{same_length}

module _ {A : Type 0} where
  -- what stands at the front stays there
  get_front : (xs ys : List A) (i : ℕ) → i < length xs → slice_get (xs ++ ys) i ≡ slice_get xs i
  get_front [] ys i h = absurd (omega (arith, h))
  get_front (x ∷ xs) ys zero h = refl
  get_front (x ∷ xs) ys (suc i) h = get_front xs ys i (omega (arith, h))

  get_last : (xs : List A) (y : A) → slice_get (xs ++ y ∷ []) (length xs) ≡ Some y
  get_last [] y = refl
  get_last (x ∷ xs) y = get_last xs y

module _ {V : Type 0} where
  -- the oldest entry stands first, the oldest value last
  pub values_are : (es : List (SessionId × V)) (i : ℕ) → i < length es → slice_get (map (λ x. x.1) (by_session es)) i ≡ option_map (λ (e : SessionId × V). e.1) (slice_get es (length es - 1 - i))
  values_are [] i h = absurd (omega (arith, h))
  values_are (e ∷ es) i h =
      let as_many : length (map (λ (x : ℕ × V). x.1) (by_session es)) ≡ length es = length-map (by_session es) (λ x. x.1) ∙ sym (same_length es) in
      let apart : slice_get (map (λ x. x.1) (by_session (e ∷ es))) i ≡ slice_get (map (λ x. x.1) (by_session es) ++ e.1 ∷ []) i = ap (λ l. slice_get l i) (map-append (λ (x : ℕ × V). x.1) (by_session es) ((e.0.0, e.1) ∷ [])) in
      elim (cases_Bool (nat_lt i (length es))) [
        | inl is ↦
            let low : i < length es = ltb-true i (length es) is in
            let place : length (e ∷ es) - 1 - i ≡ suc (length es - 1 - i) = omega (arith, low) in
            apart
            ∙ get_front (map (λ x. x.1) (by_session es)) (e.1 ∷ []) i (omega (arith, low, as_many))
            ∙ values_are es i low
            ∙ sym (ap (λ k. option_map (λ (d : SessionId × V). d.1) (slice_get (e ∷ es) k)) place)
        | inr isnt ↦
            let high : length es ≤ i = ltb-false i (length es) isnt in
            let at : i ≡ length (map (λ (x : ℕ × V). x.1) (by_session es)) = omega (arith, high, h, as_many) in
            let place : length (e ∷ es) - 1 - i ≡ zero = omega (arith, high) in
            apart
            ∙ ap (slice_get (map (λ x. x.1) (by_session es) ++ e.1 ∷ [])) at
            ∙ get_last (map (λ x. x.1) (by_session es)) e.1
            ∙ sym (ap (λ k. option_map (λ (d : SessionId × V). d.1) (slice_get (e ∷ es) k)) place)
      ]
