-- The transaction that Busy names is the least in the way: the numbers of the open transactions go down, the newest first.
use Rattle.std.proofs.Common.{◌≡◌, ℕ, ◌+◌, ◌≤◌, ◌<◌, Bool, true, false, cond, List, [], ◌∷◌, ◌==◌, Option, Some, None, refl, ap, ◌∙◌, arith, inl, inr}
use Rattle.std.proofs.lemmas.Bool.{eqb-true, eq-eqb, or_cases, or_right}
use Rattle.cg_model.specs.System.{System}
use Rattle.cg_model.specs.History.{Request, Begin, Do, Save, Back, Undo, Commit, Abort, Answer, History, is_recorded}
use Rattle.cg_model.specs.Opens.{Opens, numbers, among, without, transaction_in}
use Rattle.cg_model.specs.Live.{live}
use Rattle.cg_model.specs.Reply.{clashes_with, found_or, holder}
use Rattle.cg_core_laws.specs.Serial.{IsLeastHolder}
use Rattle.cg_core_laws.proofs.Interleaving.RunsOfStackEntries.{only}
use Rattle.cg_core_laws.proofs.Interleaving.LogMachine.{Log, log_opened, log_step_in, log_step_out, log_step_at, log_noted, log_step, log_steps}
use Rattle.cg_core_laws.proofs.Interleaving.StepsWithoutTransaction.{of_out}
use Rattle.cg_core_laws.proofs.Interleaving.UnchangedBySteps.{GoesOn, unchanged_all, unchanged_in}

-- the numbers go down, from below n
abbrev pub Falls : ℕ → Opens → Type 0
Falls n [] = Unit {0}
Falls n (p ∷ ps) = (p.1 < n) × Falls p.1 ps

pub falls_more : (n m : ℕ) (ps : Opens) → n ≤ m → Falls n ps → Falls m ps
falls_more n m [] le f = tt
falls_more n m (p ∷ ps) le f = (omega (arith, f.0), f.1)

falls_cond : (n : ℕ) (b : Bool) (p : ℕ × ℕ) (r : Opens) → p.1 < n → Falls p.1 r → Falls n (cond b r (p ∷ r))
falls_cond n true p r lt f = falls_more p.1 n r (omega arith) f
falls_cond n false p r lt f = (lt, f)

pub falls_without : (t n : ℕ) (ps : Opens) → Falls n ps → Falls n (without t ps)
falls_without t n [] f = tt
falls_without t n (p ∷ ps) f = falls_cond n (p.1 == t) p (without t ps) f.0 (falls_without t p.1 ps f.1)

falls_below : (n u : ℕ) (ps : Opens) → Falls n ps → among u (numbers ps) ≡ true → u < n
falls_below n u [] f m = absurd (cc m)
falls_below n u (p ∷ ps) f m =
    elim (or_cases (u == p.1) (among u (numbers ps)) m) [
      | inl k ↦ let e = eqb-true u p.1 k in let g = f.0 in omega arith
      | inr k ↦ let e = falls_below p.1 u ps f.1 k in let g = f.0 in omega arith
    ]

module _ (y : System) (o : y.State) (f : y.Footprint) (h : History y) where
  abbrev clash : ℕ → Bool
  clash u = clashes_with y o f (live u h)

  -- with one more transaction on top, whose number is greater
  least_step : (p : ℕ × ℕ) (ps : Opens) (r : Option ℕ) (b : Bool) → Falls p.1 ps → clash p.1 ≡ b → IsLeastHolder y o f h (numbers ps) r → IsLeastHolder y o f h (p.1 ∷ numbers ps) (found_or r b p.1)
  least_step p ps (Some v) b fall e i = (
    or_right (v == p.1) (among v (numbers ps)) i.0,
    i.1,
    λ u m k. elim (or_cases (u == p.1) (among u (numbers ps)) m) [
      | inl z ↦ let a = eqb-true u p.1 z in let g = falls_below p.1 v ps fall i.0 in omega arith
      | inr z ↦ i.2 u z k
    ],
  )
  least_step p ps None true fall e i = (
    (let s : (p.1 == p.1) ≡ true = eq-eqb p.1 p.1 refl in rw s),
    e,
    λ u m k. elim (or_cases (u == p.1) (among u (numbers ps)) m) [
      | inl z ↦ let a = eqb-true u p.1 z in omega arith
      | inr z ↦ let n = i u z in absurd (cc (n, k))
    ],
  )
  least_step p ps None false fall e i = λ u m.
      elim (or_cases (u == p.1) (among u (numbers ps)) m) [
        | inl z ↦ ap clash (eqb-true u p.1 z) ∙ e
        | inr z ↦ i u z
      ]

  pub least_holder : (n : ℕ) (ps : Opens) → Falls n ps → IsLeastHolder y o f h (numbers ps) (holder y o f h (numbers ps))
  least_holder n [] fall = λ u m. absurd (cc m)
  least_holder n (p ∷ ps) fall =
      least_step p ps (holder y o f h (numbers ps)) (clash p.1) fall.1 refl (least_holder p.1 ps fall.1)

-- the open numbers go down
abbrev pub Falling : {y : System} → Log y → Type 0
Falling c = Falls (c.begun + 1) c.opens

module _ (y : System) where
  falling_on : (c : Log y) (s t : ℕ) (r : Request y) → GoesOn y r → Falling c → Falling (log_step_in y c s t r).0
  falling_on c s t r g f = let u = unchanged_in y c s t r g in rw (u.opens, u.begun) f

  falling_in : (c : Log y) (s t : ℕ) (r : Request y) → Falling c → Falling (log_step_in y c s t r).0
  falling_in c s t Commit f = falls_without t (c.begun + 1) c.opens f
  falling_in c s t Abort f =
      let u = unchanged_all y t (only t c.log) c in
      rw (u.opens, u.begun) (falls_without t (c.begun + 1) c.opens f)
  falling_in c s t Begin f = falling_on c s t Begin tt f
  falling_in c s t (Do b) f = falling_on c s t (Do b) tt f
  falling_in c s t (Save n) f = falling_on c s t (Save n) tt f
  falling_in c s t (Back n) f = falling_on c s t (Back n) tt f
  falling_in c s t Undo f = falling_on c s t Undo tt f

  falling_out : (c : Log y) (s : ℕ) (r : Request y) → Falling c → Falling (log_step_out y c s r).0
  falling_out c s r f = of_out y (λ _ p. Falling p.0) c s (λ _ _ _. f) (λ _. (omega arith, f)) r

  falling_at : (c : Log y) (s : ℕ) (r : Request y) (h : Option ℕ) → Falling c → Falling (log_step_at y c s r h).0
  falling_at c s r (Some t) f = falling_in c s t r f
  falling_at c s r None f = falling_out c s r f

  falling_noted : (s : ℕ) (r : Request y) (h : Option ℕ) (p : Log y × Answer) (b : Bool) → Falling p.0 → Falling (log_noted b s r h p).0
  falling_noted s r h p true f = f
  falling_noted s r h p false f = f

  falling_steps : (ps : List (ℕ × Request y)) (c : Log y) → Falling c → Falling (log_steps y c ps)
  falling_steps [] c f = f
  falling_steps (p ∷ ps) c f =
      let q = log_step_at y c p.0 p.1 (transaction_in p.0 c.opens) in
      falling_steps ps (log_step y c p.0 p.1).0 (falling_noted p.0 p.1 (transaction_in p.0 c.opens) q (is_recorded p.1 q.1) (falling_at c p.0 p.1 (transaction_in p.0 c.opens) f))

  pub falling : (o : y.State) (bound : ℕ) (ps : List (ℕ × Request y)) → Falling (log_steps y (log_opened y o bound) ps)
  falling o bound ps = falling_steps ps (log_opened y o bound) tt
