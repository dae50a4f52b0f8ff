-- What is left when the newest stack entry of a transaction is taken off.
use Rattle.std.proofs.Common.{◌≡◌, ℕ, Bool, true, false, List, [], ◌∷◌, ◌==◌, refl, ap, ◌∙◌}
use Rattle.std.proofs.lemmas.Bool.{eqb-true}
use Rattle.cg_model.specs.Live.{joined_if}
use Rattle.cg_model.specs.System.{System}
use Rattle.cg_model.specs.Machine.{StackEntry}
use Rattle.cg_core_laws.proofs.Interleaving.RunsOfStackEntries.{owner, FreeOf, keep, only, skip, cut, Apart, Passes, PassAlike}

module _ (y : System) where
  pub free_tail : (z x : StackEntry y) (l : List (StackEntry y)) (c : Bool) → FreeOf y z (joined_if c x l) → FreeOf y z l
  free_tail z x l true h = h.1
  free_tail z x l false h = h

  free_put : (z x : StackEntry y) (l l' : List (StackEntry y)) (c : Bool) → (FreeOf y z l → FreeOf y z l') → FreeOf y z (joined_if c x l) → FreeOf y z (joined_if c x l')
  free_put z x l l' true i h = (h.0, i h.1)
  free_put z x l l' false i h = i h

  cut_free_step : (t u : ℕ) (z x : StackEntry y) (a : List (StackEntry y)) (b : Bool) → (FreeOf y z (only u a) → FreeOf y z (only u (cut t a))) → FreeOf y z (only u (x ∷ a)) → FreeOf y z (only u (skip b x a (cut t a)))
  cut_free_step t u z x a true i h = free_tail z x (only u a) (owner x == u) h
  cut_free_step t u z x a false i h = free_put z x (only u a) (only u (cut t a)) (owner x == u) i h

  cut_free : (t u : ℕ) (z : StackEntry y) (a : List (StackEntry y)) → FreeOf y z (only u a) → FreeOf y z (only u (cut t a))
  cut_free t u z [] h = h
  cut_free t u z (x ∷ a) h = cut_free_step t u z x a (owner x == t) (cut_free t u z a) h

  cut_apart_step : (t u : ℕ) (x : StackEntry y) (a : List (StackEntry y)) (b : Bool) → (Apart y u a → Apart y u (cut t a)) → Apart y u (x ∷ a) → Apart y u (skip b x a (cut t a))
  cut_apart_step t u x a true i h = h.1
  cut_apart_step t u x a false i h = ((λ k. cut_free t u x a (h.0 k)), i h.1)

  pub cut_apart : (t u : ℕ) (a : List (StackEntry y)) → Apart y u a → Apart y u (cut t a)
  cut_apart t u [] h = h
  cut_apart t u (x ∷ a) h = cut_apart_step t u x a (owner x == t) (cut_apart t u a) h

  -- what does not pass is not kept, so that its loss is not seen
  cut_keep_step : (t : ℕ) (p : ℕ → Bool) (x : StackEntry y) (a : List (StackEntry y)) (b : Bool) → (b ≡ true → p (owner x) ≡ false) → keep p (cut t a) ≡ keep p a → keep p (skip b x a (cut t a)) ≡ joined_if (p (owner x)) x (keep p a)
  cut_keep_step t p x a true n i = rw (n refl)
  cut_keep_step t p x a false n i = ap (joined_if (p (owner x)) x) i

  pub cut_keep : (t : ℕ) (p : ℕ → Bool) (a : List (StackEntry y)) → p t ≡ false → keep p (cut t a) ≡ keep p a
  cut_keep t p [] n = refl
  cut_keep t p (x ∷ a) n = cut_keep_step t p x a (owner x == t) (λ k. ap p (eqb-true (owner x) t k) ∙ n) (cut_keep t p a n)

  -- its own stack loses its top
  cut_own_step : (t : ℕ) (x z : StackEntry y) (a r : List (StackEntry y)) (b : Bool) → (owner z == t) ≡ b → ((r' : List (StackEntry y)) → only t a ≡ x ∷ r' → only t (cut t a) ≡ r') → joined_if b z (only t a) ≡ x ∷ r → only t (skip b z a (cut t a)) ≡ r
  cut_own_step t x z a r true k i e = cc e
  cut_own_step t x z a r false k i e = rw k (i r e)

  pub cut_own : (t : ℕ) (x : StackEntry y) (a r : List (StackEntry y)) → only t a ≡ x ∷ r → only t (cut t a) ≡ r
  cut_own t x [] r e = absurd (cc e)
  cut_own t x (z ∷ a) r e = cut_own_step t x z a r (owner z == t) refl (λ r' e'. cut_own t x a r' e') e

  -- a test that passes all
  pub keep_all : (p : ℕ → Bool) (a : List (StackEntry y)) → Passes p a → keep p a ≡ a
  keep_all p [] h = refl
  keep_all p (x ∷ a) h = rw h.0 (ap (λ l. x ∷ l) (keep_all p a h.1))

  -- two tests that agree on its owners
  pub keep_same : (p q : ℕ → Bool) (a : List (StackEntry y)) → PassAlike p q a → keep p a ≡ keep q a
  keep_same p q [] h = refl
  keep_same p q (x ∷ a) h = rw h.0 (ap (λ l. joined_if (q (owner x)) x l) (keep_same p q a h.1))
