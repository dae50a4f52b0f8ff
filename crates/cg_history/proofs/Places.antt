-- Values by the places of their sessions.
use Rattle.std.proofs.Common.{◌≡◌, ℕ, zero, suc, ◌==◌, Bool, true, false, cond, List, [], ◌∷◌, Option, Some, None, IfSome, is_some, slice_get, position, refl, sym, ap, subst, ◌∙◌, true≢false}
use Rattle.std.proofs.lemmas.Bool.{eqb-true, eq-eqb}
use Rattle.std.proofs.lemmas.List.Quantifiers.{position-Some}
use Rattle.std.proofs.lemmas.Option.{slice_get-get_or}
use Rattle.std.specs.Map.{keys_of, values_of, lookup, set_value}
use Rattle.indexmap.specs.IndexMap.{set_value_at}
use Rattle.cg_history.specs.declared.session.SessionId.{SessionId}
use Rattle.cg_history.specs.SessionMap.{by_session, found, with_value, IsOnceEach}
use Rattle.cg_history.proofs.BySession.{found_is, parts_once, written_is, written_once}

-- the session with the same number
abbrev is : SessionId → SessionId → Bool
is s = λ k. s.0 == k.0

-- at the first place that passes stands the session
pub place_found : (s : SessionId) (ks : List SessionId) (r : Option ℕ) → r ≡ position (is s) ks → IfSome r (λ i. slice_get ks i ≡ Some s)
place_found s ks None e = tt
place_found s ks (Some i) e =
    let h = position-Some (is s) ks i s (sym e) in
    slice_get-get_or ks i s h.0 ∙ ap (λ (n : ℕ). Some (record { 0 = n })) (sym (eqb-true s.0 _ h.1))

-- the first key is the session's where its place is the first
first_is : {V : Type 0} (s : SessionId) (e : SessionId × V) → Some e.0 ≡ Some s → is s e.0 ≡ true
first_is s e at = let same : e.0 ≡ s = cc in eq-eqb s.0 e.0.0 (ap (λ (k : SessionId). k.0) (sym same))

module _ {V : Type 0} (s : SessionId) where
  some_value : (es : List (SessionId × V)) (i : ℕ) → slice_get (keys_of es) i ≡ Some s → is_some (lookup (is s) es) ≡ true
  some_value [] i at = absurd (true≢false (sym (ap is_some at)))
  some_value (e ∷ es) zero at = ap (λ b. is_some (cond b (Some e.1) (lookup (is s) es))) (first_is s e at)
  some_value (e ∷ es) (suc i) at = elim (is s e.0) as (λ b. is_some (cond b (Some e.1) (lookup (is s) es)) ≡ true) [
    | true ↦ refl
    | false ↦ some_value es i at
  ]

  -- a session stands at one place alone
  apart : (e : SessionId × V) (es : List (SessionId × V)) (i : ℕ) → IsOnceEach (by_session (e ∷ es)) → slice_get (keys_of es) i ≡ Some s → is s e.0 ≡ false
  apart e es i h at =
      let parts = parts_once (by_session es) (e.0.0, e.1) h in
      elim (is s e.0) as (λ b. is s e.0 ≡ b → b ≡ false) [
        | true ↦ λ same. absurd (true≢false (sym (some_value es i at) ∙ ap is_some (found_is s.0 es parts.0 ∙ ap (λ n. found n (by_session es)) (eqb-true s.0 e.0.0 same) ∙ parts.1)))
        | false ↦ λ _. refl
      ] refl

  value_there : (es : List (SessionId × V)) (i : ℕ) → IsOnceEach (by_session es) → slice_get (keys_of es) i ≡ Some s → slice_get (values_of es) i ≡ lookup (is s) es
  value_there [] i h at = refl
  value_there (e ∷ es) zero h at = sym (ap (λ b. cond b (Some e.1) (lookup (is s) es)) (first_is s e at))
  value_there (e ∷ es) (suc i) h at =
      value_there es i (parts_once (by_session es) (e.0.0, e.1) h).0 at
      ∙ sym (ap (λ b. cond b (Some e.1) (lookup (is s) es)) (apart e es i h at))

  written_there : (w : V) (es : List (SessionId × V)) (i : ℕ) → IsOnceEach (by_session es) → slice_get (keys_of es) i ≡ Some s → set_value_at es i w ≡ set_value (is s) es w
  written_there w [] i h at = refl
  written_there w (e ∷ es) zero h at = sym (ap (λ b. cond b ((e.0, w) ∷ es) (e ∷ set_value (is s) es w)) (first_is s e at))
  written_there w (e ∷ es) (suc i) h at =
      ap (λ l. e ∷ l) (written_there w es i (parts_once (by_session es) (e.0.0, e.1) h).0 at)
      ∙ sym (ap (λ b. cond b ((e.0, w) ∷ es) (e ∷ set_value (is s) es w)) (apart e es i h at))

  -- what stands at the session's place is its value, and so is what is written there
  pub found_there : (es : List (SessionId × V)) (i : ℕ) → IsOnceEach (by_session es) → slice_get (keys_of es) i ≡ Some s → slice_get (values_of es) i ≡ found s.0 (by_session es)
  found_there es i h at = value_there es i h at ∙ found_is s.0 es h

  pub written_is_there : (w : V) (es : List (SessionId × V)) (i : ℕ) → IsOnceEach (by_session es) → slice_get (keys_of es) i ≡ Some s → by_session (set_value_at es i w) ≡ with_value s.0 w (by_session es)
  written_is_there w es i h at = ap by_session (written_there w es i h at) ∙ written_is s.0 w es h

  pub written_once_there : (w : V) (es : List (SessionId × V)) (i : ℕ) → IsOnceEach (by_session es) → slice_get (keys_of es) i ≡ Some s → IsOnceEach (by_session (set_value_at es i w))
  written_once_there w es i h at = subst IsOnceEach (sym (written_is_there w es i h at)) (written_once s.0 w (by_session es) h)
