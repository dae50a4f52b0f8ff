-- The aborts at the end of a schedule.
use Rattle.std.proofs.Common.{◌≡◌, ℕ, ◌<◌, List, [], ◌∷◌, ◌++◌, map, reverse, Some, refl, sym, ap, ◌∙◌, subst, arith}
use Rattle.std.proofs.lemmas.List.{reverse-append, reverse-reverse}
use Rattle.std.specs.List.{AllByRecursion}
use Rattle.cg_model.specs.System.{System}
use Rattle.cg_model.specs.History.{Request, Abort, Answer, Aborted, History, is_recorded, named_in}
use Rattle.cg_model.specs.Opens.{Opens, numbers, among, without, transaction_in, opens}
use Rattle.cg_model.specs.Live.{committed}
use Rattle.cg_model.specs.Run.{run_items}
use Rattle.cg_model.specs.Machine.{Machine, opened, step, steps}
use Rattle.cg_model.specs.Output.{answers}
use Rattle.cg_core_laws.specs.Serial.{OnceEach, AreProper, IsFaithful}
use Rattle.cg_core_laws.specs.Ends.{GoDown, EndsAll}
use Rattle.cg_core_laws.proofs.Interleaving.SystemLaws.{SystemLaws}
use Rattle.cg_core_laws.proofs.Interleaving.LeastHolder.{Falls, falls_more, falling}
use Rattle.cg_core_laws.proofs.Interleaving.AfterSteps.{invariant}
use Rattle.cg_core_laws.proofs.Interleaving.MachineRunsAsLog.{steps_are}
use Rattle.cg_core_laws.proofs.Interleaving.GoingBack.{goes_back}
use Rattle.cg_core_laws.proofs.Interleaving.OneTransactionEach.{sessions, once_each, last_found, last_left}
use Rattle.cg_core_laws.proofs.Interleaving.Theorem.{by_log, serial, faithful}

abbrev abort : {y : System} → ℕ × ℕ → ℕ × Request y
abort p = (p.0, Abort)

all_below : (n : ℕ) (ps : Opens) → Falls n ps → AllByRecursion (λ m. m < n) (numbers ps)
all_below n [] f = tt
all_below n (p ∷ ps) f = (f.0, all_below n ps (falls_more p.1 n ps (omega (arith, f.0)) f.1))

go_down : (n : ℕ) (ps : Opens) → Falls n ps → GoDown (numbers ps)
go_down n [] f = tt
go_down n (p ∷ ps) f = (all_below p.1 ps f.1, go_down p.1 ps f.1)

module _ (y : System) where
  pub answers_are_steps : (m : Machine y) (rs : List (ℕ × Request y)) → (answers y m rs).1 ≡ steps y m rs
  answers_are_steps m [] = refl
  answers_are_steps m (r ∷ rs) = answers_are_steps (step y m r.0 r.1).0 rs

  pub steps_more : (m : Machine y) (rs qs : List (ℕ × Request y)) → steps y m (rs ++ qs) ≡ steps y (steps y m rs) qs
  steps_more m [] qs = refl
  steps_more m (r ∷ rs) qs = steps_more (step y m r.0 r.1).0 rs qs

  proper_more : (rs : List (ℕ × Request y)) (p : ℕ × ℕ) → AreProper rs → AreProper (rs ++ abort p ∷ [])
  proper_more [] p h = (tt, tt)
  proper_more (r ∷ rs) p h = (h.0, proper_more rs p h.1)

  -- the oldest open transaction is aborted
  pub record IsAborted (m : Machine y) (l : Opens) (p : ℕ × ℕ) : Type 0 where
    pub answer : (step y m p.0 Abort).1 ≡ Aborted p.1
    pub left : opens (step y m p.0 Abort).0.history ≡ l
    pub same : committed (step y m p.0 Abort).0.history ≡ committed m.history

  one_abort : (o : y.State) (m : Machine y) → IsFaithful y o m → (l : Opens) (p : ℕ × ℕ) → opens m.history ≡ l ++ p ∷ [] → OnceEach (numbers (opens m.history)) → IsAborted m l p
  one_abort o m right l p e once =
      let h : History y = m.history in
      let found : transaction_in p.0 (opens h) ≡ Some p.1 = ap (transaction_in p.0) e ∙ last_found l p (subst (λ ps. OnceEach (sessions ps)) e (once_each y o m.bound h right.legal)) in
      let answer : (step y m p.0 Abort).1 ≡ Aborted p.1 = (goes_back y o m right p.0 p.1 found).abort.0 in
      let grown = right.recorded p.0 Abort (ap (λ (a : Answer). is_recorded {y = y} Abort a) answer) in
      let named : named_in (transaction_in p.0 (opens h)) (step y m p.0 Abort).1 ≡ p.1 = ap (λ t. named_in t (step y m p.0 Abort).1) found in
      let new : (step y m p.0 Abort).0.history ≡ record { session = p.0; transaction = p.1; request = Abort; answer = Aborted p.1 } ∷ h = grown ∙ (λ i. record { session = p.0; transaction = named i; request = Abort; answer = answer i } ∷ h) in
      record {
        answer = answer;
        left = ap (λ (g : History y). opens g) new ∙ ap (without p.1) e ∙ last_left l p (subst (λ ps. OnceEach (numbers ps)) e once);
        same = ap (λ (g : History y). committed g) new;
      }

module _ (y : System) (laws : SystemLaws y) (o : y.State) (sound : y.Sound o) (bound : ℕ) where
  abbrev after : List (ℕ × Request y) → Machine y
  after rs = steps y (opened y o bound) rs

  -- the aborts of these, after which nothing is open
  record AreAborted (m : Machine y) (ps : Opens) : Type 0 where
    accepted : (answers y m (map abort ps)).0 ≡ map (λ p. Aborted p.1) ps
    closed : opens (answers y m (map abort ps)).1.history ≡ []
    tree : (answers y m (map abort ps)).1.tree ≡ run_items y o (committed m.history)

  one_more : (m : Machine y) (p : ℕ × ℕ) (ps : Opens) → IsAborted y m (reverse ps) p → AreAborted (step y m p.0 Abort).0 ps → AreAborted m (p ∷ ps)
  one_more m p ps one rest =
      record { accepted = λ i. one.answer i ∷ rest.accepted i; closed = rest.closed; tree = rest.tree ∙ ap (run_items y o) one.same }

  are_aborted : (ps : Opens) (rs : List (ℕ × Request y)) → AreProper rs → reverse (opens (after rs).history) ≡ ps → AreAborted (after rs) ps
  are_aborted [] rs proper e =
      let none : opens (after rs).history ≡ [] = sym (reverse-reverse (opens (after rs).history)) ∙ ap reverse e in
      record {
        accepted = refl;
        closed = none;
        tree = sym ((serial y laws o sound bound rs proper).orders [] (tt, λ u. sym (ap (λ ps. among u (numbers ps)) none))).1;
      }
  are_aborted (p ∷ ps) rs proper e =
      let m : Machine y = after rs in
      let all : opens m.history ≡ reverse ps ++ p ∷ [] = sym (reverse-reverse (opens m.history)) ∙ ap reverse e ∙ reverse-append (p ∷ []) ps in
      let once : OnceEach (numbers (opens m.history)) = by_log y laws o sound bound rs proper (λ n. OnceEach (numbers (opens n.history))) (λ c i. subst (λ qs. OnceEach (numbers qs)) i.tied.opens i.kept.once) in
      let one : IsAborted y m (reverse ps) p = one_abort y o m (faithful y laws o sound bound rs proper) (reverse ps) p all once in
      let next : after (rs ++ abort p ∷ []) ≡ (step y m p.0 Abort).0 = steps_more y (opened y o bound) rs (abort p ∷ []) in
      let left : reverse (opens (after (rs ++ abort p ∷ [])).history) ≡ ps = ap (λ (n : Machine y). reverse (opens n.history)) next ∙ ap reverse one.left ∙ reverse-reverse ps in
      one_more m p ps one (subst (λ n. AreAborted n ps) next (are_aborted ps (rs ++ abort p ∷ []) (proper_more y rs p proper) left))

  pub ends_all : (rs : List (ℕ × Request y)) → AreProper rs → EndsAll y o (after rs)
  ends_all rs proper =
      let all : AreAborted (after rs) (reverse (opens (after rs).history)) = are_aborted (reverse (opens (after rs).history)) rs proper refl in
      let falls = falling y o bound rs in
      record {
        numbered = subst (λ (m : Machine y). GoDown (numbers (opens m.history))) (steps_are y laws o bound rs proper)
            (subst (λ ps. GoDown (numbers ps)) (invariant y laws o bound rs proper).tied.opens (go_down _ _ falls));
        accepted = all.accepted;
        closed = all.closed;
        tree = all.tree;
      }
