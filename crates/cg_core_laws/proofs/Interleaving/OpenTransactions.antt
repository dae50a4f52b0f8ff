-- The open transactions: each once, without one of them, and that of a session.
use Rattle.std.proofs.Common.{◌≡◌, ℕ, Bool, true, false, cond, [], ◌∷◌, ◌==◌, ◌||◌, ◌&&◌, not, Option, Some, refl, sym, ap, ◌∙◌}
use Rattle.std.proofs.lemmas.Bool.{eqb-true, eq-eqb, or_right, and_right, and_parts}
use Rattle.cg_model.specs.Opens.{Opens, numbers, among, without, transaction_in}
use Rattle.cg_core_laws.specs.Serial.{OnceEach}

-- the number of no open transaction
abbrev pub closed : Opens → ℕ → Bool
closed ps u = not (among u (numbers ps))

without_step : (b c d m m' : Bool) → (b ≡ true → c ≡ d) → (b ≡ false → c ≡ true → d ≡ false) → m' ≡ (not d && m) → (u : ℕ) (p : ℕ × ℕ) (r : Opens) → (u == p.1) ≡ c → among u (numbers r) ≡ m' → among u (numbers (cond b r (p ∷ r))) ≡ (not d && (c || m))
without_step true c true m m' h i e u p r k l = l ∙ e
without_step true c false m m' h i e u p r k l = rw (h refl) (l ∙ e)
without_step false true d m m' h i e u p r k l = rw (k, i refl refl)
without_step false false d m m' h i e u p r k l = rw k (l ∙ e)

-- the others are those that are open and not t
pub among_without : (t u : ℕ) (ps : Opens) → among u (numbers (without t ps)) ≡ (not (u == t) && among u (numbers ps))
among_without t u [] = sym (and_right (not (u == t)) false refl)
among_without t u (p ∷ ps) =
    without_step (p.1 == t) (u == p.1) (u == t) (among u (numbers ps)) (among u (numbers (without t ps)))
    (λ k. ap (λ v. u == v) (eqb-true p.1 t k))
    (λ k l. ap (λ v. v == t) (eqb-true u p.1 l) ∙ k)
    (among_without t u ps) u p (without t ps) refl refl

-- one of the others is open
pub still_open : (t u : ℕ) (ps : Opens) → among u (numbers (without t ps)) ≡ true → among u (numbers ps) ≡ true
still_open t u ps m = (and_parts (not (u == t)) _ (sym (among_without t u ps) ∙ m)).1

not_and : (d m : Bool) → not (not d && m) ≡ (d || not m)
not_and true m = refl
not_and false m = refl

pub closed_without : (t u : ℕ) (ps : Opens) → closed (without t ps) u ≡ ((u == t) || closed ps u)
closed_without t u ps = ap not (among_without t u ps) ∙ not_and (u == t) (among u (numbers ps))

once_step : (b : Bool) (p : ℕ × ℕ) (r : Opens) → among p.1 (numbers r) ≡ false → OnceEach (numbers r) → OnceEach (numbers (cond b r (p ∷ r)))
once_step true p r n h = h
once_step false p r n h = (n, h)

pub once_without : (t : ℕ) (ps : Opens) → OnceEach (numbers ps) → OnceEach (numbers (without t ps))
once_without t [] h = h
once_without t (p ∷ ps) h =
    once_step (p.1 == t) p (without t ps) (among_without t p.1 ps ∙ and_right (not (p.1 == t)) _ h.0) (once_without t ps h.1)

find_open : (b : Bool) (t u : ℕ) (r : Option ℕ) (m : Bool) → cond b (Some u) r ≡ Some t → (r ≡ Some t → m ≡ true) → ((t == u) || m) ≡ true
find_open true t u r m e i = let k : t ≡ u = cc e in rw (eq-eqb t u k)
find_open false t u r m e i = or_right (t == u) m (i e)

-- the transaction of a session is open
pub transaction_open : (s t : ℕ) (ps : Opens) → transaction_in s ps ≡ Some t → among t (numbers ps) ≡ true
transaction_open s t [] e = absurd (cc e)
transaction_open s t (p ∷ ps) e = find_open (p.0 == s) t p.1 (transaction_in s ps) (among t (numbers ps)) e (transaction_open s t ps)
