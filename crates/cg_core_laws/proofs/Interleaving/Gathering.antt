-- Stack entries that do not clash can be swapped, and those of transactions can be gathered, one transaction on another.
use Rattle.std.proofs.Common.{◌≡◌, ℕ, Bool, true, false, List, [], ◌∷◌, ◌++◌, ◌==◌, ◌||◌, refl, sym, ap, ◌∙◌, subst}
use Rattle.std.proofs.lemmas.Bool.{eqb-true, eq-eqb, or_from, or_right}
use Rattle.std.proofs.Math.Bool.{or_assoc}
use Rattle.cg_model.specs.System.{System, Accept}
use Rattle.cg_model.specs.Opens.{among}
use Rattle.cg_model.specs.Live.{joined_if}
use Rattle.cg_model.specs.Machine.{StackEntry, Did, Savepoint}
use Rattle.cg_core_laws.specs.Serial.{OnceEach}
use Rattle.cg_core_laws.proofs.Interleaving.SystemLaws.{SystemLaws}
use Rattle.cg_core_laws.proofs.Interleaving.RunsOfStackEntries.{owner, Accepts, moved, Free, FreeOf, state, Runs, keep, only, skip, cut, Apart, Same, blocks}

-- two clash tests alike
clash_alike : (y : System) (laws : SystemLaws y) (f g f' g' : y.Footprint) → f' ≡ f → g' ≡ g → y.clashes g f ≡ false → y.clashes f' g' ≡ false
clash_alike y laws f g f' g' p q h = cc (laws.clash_sym f g)

-- two in a row
abbrev Swapped : (y : System) → y.State → StackEntry y → StackEntry y → Type 0
Swapped y s x z = Accepts y s x × Accepts y (moved y x s) z × (moved y z (moved y x s) ≡ moved y x (moved y z s))

swap : (y : System) (laws : SystemLaws y) (s : y.State) (x z : StackEntry y) → Accepts y s z → Accepts y (moved y z s) x → Free y x z → Swapped y s x z
swap y laws s (Did u uh b a' e g) (Did t th c a d f) hz hx h =
    let p = laws.same_after s c a d b hz.1 (clash_alike y laws f g _ _ hz.2 hx.2 h) in
    let ax : y.effect b s ≡ Accept a' e = sym p.0 ∙ hx.1 in
    let fx : y.footprint b s ≡ g = sym p.1 ∙ hx.2 in
    let n : y.clashes (y.footprint c s) (y.footprint b s) ≡ false = clash_alike y laws f g _ _ hz.2 fx h in
    let q = laws.same_before s b a' e c ax (laws.clash_sym (y.footprint b s) (y.footprint c s) ∙ n) in
    ((hx.0, ax, fx), (hz.0, q.0 ∙ hz.1, q.1 ∙ hz.2), sym (laws.commute s c a d b a' e hz.1 ax n))
swap y laws s (Did u uh b a' e g) (Savepoint t th n) hz hx h = (hx, tt, refl)
swap y laws s (Savepoint u uh m) (Did t th c a d f) hz hx h = (tt, hz, refl)
swap y laws s (Savepoint u uh m) (Savepoint t th n) hz hx h = (tt, tt, refl)

sound_step : (y : System) (laws : SystemLaws y) (s : y.State) (x : StackEntry y) → y.Sound s → Accepts y s x → y.Sound (moved y x s)
sound_step y laws s (Did u uh b a e g) sound h = laws.sound_kept s b a e h.0 sound h.1
sound_step y laws s (Savepoint t th n) sound h = sound

module _ (y : System) (laws : SystemLaws y) (o : y.State) where
  -- what runs from a sound state ends in one
  pub sound_state : y.Sound o → (a : List (StackEntry y)) → Runs y o a → y.Sound (state y o a)
  sound_state sound [] r = sound
  sound_state sound (x ∷ a) r = sound_step y laws (state y o a) x (sound_state sound a r.1) r.0

  pub same_refl : (a : List (StackEntry y)) → Same y o a a
  same_refl a = record { by = λ r. (r, refl) }

  pub same_trans : (a b c : List (StackEntry y)) → Same y o a b → Same y o b c → Same y o a c
  same_trans a b c p q = record { by = λ r. let f = p.by r in let g = q.by f.0 in (g.0, g.1 ∙ f.1) }

  pub same_cons : (x : StackEntry y) (a b : List (StackEntry y)) → Same y o a b → Same y o (x ∷ a) (x ∷ b)
  same_cons x a b p = record { by = λ r. let f = p.by r.1 in ((subst (λ s. Accepts y s x) (sym f.1) r.0, f.0), ap (moved y x) f.1) }

  pub same_swap : (x z : StackEntry y) (a : List (StackEntry y)) → Free y x z → Same y o (x ∷ z ∷ a) (z ∷ x ∷ a)
  same_swap x z a h =
      record { by = λ r. let f = swap y laws (state y o a) x z r.1.0 r.0 h in ((f.1, (f.0, r.1.1)), f.2) }

  -- a stack entry sinks below those that it is free of
  pub sink : (x : StackEntry y) (a b : List (StackEntry y)) → FreeOf y x a → Same y o (x ∷ a ++ b) (a ++ x ∷ b)
  sink x [] b h = same_refl (x ∷ b)
  sink x (z ∷ a) b h = same_trans _ _ _ (same_swap x z (a ++ b) h.0) (same_cons z _ _ (sink x a b h.1))

  pub gather_step : (x : StackEntry y) (ts qs ps : List (StackEntry y)) (b c : Bool) → (b ≡ true → c ≡ false) → (b ≡ false → FreeOf y x ts) → Same y o ps (ts ++ qs) → Same y o (joined_if (b || c) x ps) (joined_if b x ts ++ joined_if c x qs)
  gather_step x ts qs ps true true n h i = absurd (cc (n refl))
  gather_step x ts qs ps true false n h i = same_cons x _ _ i
  gather_step x ts qs ps false true n h i = same_trans _ _ _ (same_cons x _ _ i) (sink x ts qs (h refl))
  gather_step x ts qs ps false false n h i = i

  -- the stack entries of one more transaction on top
  pub gather : (t : ℕ) (q p : ℕ → Bool) → q t ≡ false → ((u : ℕ) → p u ≡ ((u == t) || q u)) → (a : List (StackEntry y)) → Apart y t a → Same y o (keep p a) (only t a ++ keep q a)
  gather t q p qt e [] h = same_refl []
  gather t q p qt e (x ∷ a) h =
      rw (e (owner x)) (gather_step x (only t a) (keep q a) (keep p a) (owner x == t) (q (owner x)) (λ k. ap q (eqb-true (owner x) t k) ∙ qt) h.0 (gather t q p qt e a h.1))

  -- the newest stack entry of t rises to the very top
  rise_step : (t : ℕ) (x z : StackEntry y) (a r : List (StackEntry y)) (b : Bool) → (b ≡ false → FreeOf y z (only t a)) → joined_if b z (only t a) ≡ x ∷ r → ((r' : List (StackEntry y)) → only t a ≡ x ∷ r' → Same y o a (x ∷ cut t a)) → Same y o (z ∷ a) (x ∷ skip b z a (cut t a))
  rise_step t x z a r true h e i = let k : z ≡ x = cc e in subst (λ w. Same y o (z ∷ a) (w ∷ a)) k (same_refl (z ∷ a))
  rise_step t x z a r false h e i =
      same_trans _ _ _ (same_cons z _ _ (i r e)) (same_swap z x (cut t a) (subst (FreeOf y z) e (h refl)).0)

  pub rise : (t : ℕ) (x : StackEntry y) (a r : List (StackEntry y)) → Apart y t a → only t a ≡ x ∷ r → Same y o a (x ∷ cut t a)
  rise t x [] r h e = absurd (cc e)
  rise t x (z ∷ a) r h e = rise_step t x z a r (owner z == t) h.0 e (λ r' e'. rise t x a r' h.1 e')

  pub same_append : (a b c : List (StackEntry y)) → Same y o b c → Same y o (a ++ b) (a ++ c)
  same_append [] b c h = h
  same_append (x ∷ a) b c h = same_cons x _ _ (same_append a b c h)

  -- what is on top of a run is accepted there, and taking it off goes back
  pub after_cut : (t : ℕ) (x : StackEntry y) (a r : List (StackEntry y)) → Apart y t a → only t a ≡ x ∷ r → Runs y o a → Runs y o (x ∷ cut t a) × (moved y x (state y o (cut t a)) ≡ state y o a)
  after_cut t x a r h e runs = (rise t x a r h e).by runs

  -- the transactions one by one
  pub canon : (q : ℕ → Bool) (a done : List (StackEntry y)) (os : List ℕ) → OnceEach os → ((t : ℕ) → among t os ≡ true → (q t ≡ false) × Apart y t a) → Same y o (keep q a) done → Same y o (keep (λ u. among u os || q u) a) (blocks os a done)
  canon q a done [] once h i = i
  canon q a done (t ∷ os) once h i =
      let top = h t (rw (eq-eqb t t refl)) in
      same_trans _ _ _
      (gather t (λ u. among u os || q u) (λ u. among u (t ∷ os) || q u) (or_from (among t os) (q t) once.0 top.0) (λ u. or_assoc (u == t) (among u os) (q u)) a top.1)
      (same_append (only t a) _ _ (canon q a done os once.1 (λ u m. h u (or_right (u == t) (among u os) m)) i))
