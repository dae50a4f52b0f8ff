-- Live stacks after one more record: that of its transaction changes.
use Rattle.std.proofs.Common.{◌≡◌, ℕ, ◌==◌, Bool, true, false, cond, ◌∷◌, refl, sym, ap, ◌∙◌}
use Rattle.std.proofs.lemmas.Bool.{eqb-true, eq-eqb, false_from_ne_true, both_ways}
use Rattle.cg_model.specs.System.{System}
use Rattle.cg_model.specs.History.{Record, History}
use Rattle.cg_model.specs.Live.{Items, live, live_after}
use Rattle.cg_core_laws.specs.Unwind.{with_items}

-- numbers are compared either way
pub compared_either_way : (t u : ℕ) → (t == u) ≡ (u == t)
compared_either_way t u = at (u == t) refl
  where
    at : (b : Bool) → (u == t) ≡ b → (t == u) ≡ b
    at true k = eq-eqb t u (sym (eqb-true u t k))
    at false k = false_from_ne_true _ (λ e. both_ways _ k (eq-eqb u t (sym (eqb-true t u e))))

-- the stack of the record's transaction is what the record leaves of it, and the others stay
pub live_stacks : {y : System} (r : Record y) (h : History y) (u : ℕ) → live u (r ∷ h) ≡ with_items r.transaction (live_after r.request r.answer r.transaction h (live r.transaction h)) (λ v. live v h) u
live_stacks {y} r h u = ap (λ b. cond b (changed u) (live u h)) (compared_either_way r.transaction u) ∙ at (u == r.transaction) refl
  where
    changed : ℕ → Items y
    changed v = live_after r.request r.answer r.transaction h (live v h)

    at : (b : Bool) → (u == r.transaction) ≡ b → cond b (changed u) (live u h) ≡ cond b (changed r.transaction) (live u h)
    at true k = ap changed (eqb-true u r.transaction k)
    at false k = refl
