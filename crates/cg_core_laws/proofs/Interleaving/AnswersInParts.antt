-- A command's answer in a part of the work is that in the whole, where it clashes with none of the rest.
use Rattle.std.proofs.Common.{◌≡◌, ℕ, true, false, List, [], ◌∷◌, ◌++◌, ◌==◌, refl, sym, ◌∙◌}
use Rattle.std.proofs.lemmas.Bool.{eq-eqb, or_right}
use Rattle.cg_model.specs.System.{System, Outcome}
use Rattle.cg_model.specs.History.{History}
use Rattle.cg_model.specs.Opens.{among}
use Rattle.cg_model.specs.Machine.{StackEntry, Did, Savepoint}
use Rattle.cg_core_laws.proofs.Interleaving.SystemLaws.{SystemLaws, Alike}
use Rattle.cg_core_laws.proofs.Interleaving.RunsOfStackEntries.{Accepts, moved, FreeOf, state, Runs, only, blocks, Clear}

module _ (y : System) (laws : SystemLaws y) (o : y.State) where
  own_step : (c : y.Command) (f : y.Footprint) (s : y.State) (x : StackEntry y) (l : List (StackEntry y)) → Accepts y s x → Clear y f (x ∷ l) → y.footprint c (moved y x s) ≡ f → Alike y c (moved y x s) s
  own_step c f s (Did t th b a d g) l h cl e =
      let n : y.clashes (y.footprint b s) (y.footprint c (y.done d s)) ≡ false = cc (cl.0, h.2, e) in
      laws.same_after s b a d c h.1 n
  own_step c f s (Savepoint t th n) l h cl e = (refl, refl)

  own_tail : (f : y.Footprint) (x : StackEntry y) (l : List (StackEntry y)) → Clear y f (x ∷ l) → Clear y f l
  own_tail f (Did t th b a d g) l cl = cl.1
  own_tail f (Savepoint t th n) l cl = cl

  pub own : (c : y.Command) (f : y.Footprint) (a b : List (StackEntry y)) → Runs y o (a ++ b) → Clear y f a → y.footprint c (state y o (a ++ b)) ≡ f → Alike y c (state y o (a ++ b)) (state y o b)
  own c f [] b r cl e = (refl, refl)
  own c f (x ∷ a) b r cl e =
      let p = own_step c f (state y o (a ++ b)) x a r.0 cl e in
      let q = own c f a b r.1 (own_tail f x a cl) (sym p.1 ∙ e) in
      (p.0 ∙ q.0, p.1 ∙ q.1)

  -- what is at the bottom of a run runs by itself
  pub runs_below : (a b : List (StackEntry y)) → Runs y o (a ++ b) → Runs y o b
  runs_below [] b r = r
  runs_below (x ∷ a) b r = runs_below a b r.1

  pub runs_under : (os : List ℕ) (a b : List (StackEntry y)) → Runs y o (blocks os a b) → Runs y o b
  runs_under [] a b r = r
  runs_under (t ∷ os) a b r = runs_under os a b (runs_below (only t a) (blocks os a b) r)

  pub own_blocks : (c : y.Command) (f : y.Footprint) (os : List ℕ) (a b : List (StackEntry y)) → Runs y o (blocks os a b) → ((u : ℕ) → among u os ≡ true → Clear y f (only u a)) → y.footprint c (state y o (blocks os a b)) ≡ f → Alike y c (state y o (blocks os a b)) (state y o b)
  own_blocks c f [] a b r cl e = (refl, refl)
  own_blocks c f (t ∷ os) a b r cl e =
      let p = own c f (only t a) (blocks os a b) r (cl t (rw (eq-eqb t t refl))) e in
      let q = own_blocks c f os a b (runs_below (only t a) _ r) (λ u m. cl u (or_right (u == t) (among u os) m)) (sym p.1 ∙ e) in
      (p.0 ∙ q.0, p.1 ∙ q.1)

  -- a new stack entry that clashes with none of a list is free of it
  pub clear_free : (t : ℕ) (th : History y) (c : y.Command) (a : Outcome) (d : y.Change) (f : y.Footprint) (l : List (StackEntry y)) → Clear y f l → FreeOf y (Did t th c a d f) l
  clear_free t th c a d f [] h = tt
  clear_free t th c a d f (Did u uh b a' e g ∷ l) h = (laws.clash_sym f g ∙ h.0, clear_free t th c a d f l h.1)
  clear_free t th c a d f (Savepoint u uh n ∷ l) h = (tt, clear_free t th c a d f l h)
