-- What a history asked for, asked again of a machine over its opening tree, is answered as it was.
use Rattle.std.proofs.Common.{◌≡◌, ℕ, ◌==◌, Bool, true, false, cond, List, [], ◌∷◌, ◌++◌, map, reverse, refl, sym, ap, subst, ◌∙◌}
use Rattle.std.proofs.lemmas.Bool.{eqb-true, eq-eqb, false_from_ne_true, both_ways}
use Rattle.std.proofs.lemmas.List.{map-append, reverse-append}
use Rattle.std.specs.List.{AllByRecursion}
use Rattle.cg_model.specs.Tree.{Tree}
use Rattle.cg_model.specs.Sound.{Sound}
use Rattle.cg_model.specs.Cgroups.{cgroups}
use Rattle.cg_model.specs.History.{Request, Answer, Record, History, is_recorded, named_in, IsProperRequest}
use Rattle.cg_model.specs.Opens.{transaction_in, opens}
use Rattle.cg_model.specs.Reply.{reply, Legal}
use Rattle.cg_model.specs.Machine.{Machine, opened, found, found_number, noted, step_at, step, steps}
use Rattle.cg_model.specs.Output.{answers}
use Rattle.cg_core_laws.specs.MachineOf.{machine_of, Reached, with_record, history_after, StepsOn}
use Rattle.cg_core_laws.specs.Replayed.{asked_again, recorded_answers, TellsApart, AnswersAgain, HistoriesAnswerAgain}
use Rattle.cg_core_laws.specs.Serial.{AreProper, IsFaithful}
use Rattle.cg_core_laws.proofs.ControlGroups.LawsOfGroups.{laws}
use Rattle.cg_core_laws.proofs.ControlGroups.SteppingOn.{reached_at_first, steps_by_history}
use Rattle.cg_core_laws.proofs.Interleaving.MovesOfSteps.{history_at}
use Rattle.cg_core_laws.proofs.Interleaving.Renumbering.{answers_new, new_machine, opens_new}
use Rattle.cg_core_laws.proofs.Interleaving.Theorem.{faithful}

-- ---- the records of proper requests are of proper requests

abbrev RecordsProper : History cgroups → Type 0
RecordsProper h = AllByRecursion (λ (r : Record cgroups). IsProperRequest r.request) h

proper_noted : (b : Bool) (s : ℕ) (r : Request cgroups) (m : Machine cgroups) → IsProperRequest r → (p : Machine cgroups × Answer) → p.0.history ≡ m.history → RecordsProper m.history
    → RecordsProper (noted b s r (found_number (found s m.transactions)) p).0.history
proper_noted true s r m proper p same all = (proper, subst RecordsProper (sym same) all)
proper_noted false s r m proper p same all = subst RecordsProper (sym same) all

proper_steps : (m : Machine cgroups) (ps : List (ℕ × Request cgroups)) → AreProper ps → RecordsProper m.history → RecordsProper (steps cgroups m ps).history
proper_steps m [] proper all = all
proper_steps m (p ∷ ps) proper all =
    let at = step_at cgroups m p.0 p.1 (found p.0 m.transactions) in
    proper_steps (step cgroups m p.0 p.1).0 ps proper.1
    (proper_noted (is_recorded p.1 at.1) p.0 p.1 m proper.0 at (history_at cgroups m p.0 p.1 (found p.0 m.transactions)) all)

-- ---- answers to more requests

answers_more : (m : Machine cgroups) (ps : List (ℕ × Request cgroups)) (q : ℕ × Request cgroups) (n : Machine cgroups) → (answers cgroups m ps).1 ≡ n
    → answers cgroups m (ps ++ q ∷ []) ≡ ((answers cgroups m ps).0 ++ (step cgroups n q.0 q.1).1 ∷ [], (step cgroups n q.0 q.1).0)
answers_more m [] q n is = λ i. ((step cgroups (is i) q.0 q.1).1 ∷ [], (step cgroups (is i) q.0 q.1).0)
answers_more m (p ∷ ps) q n is = λ i. let rest = answers_more (step cgroups m p.0 p.1).0 ps q n is i in ((step cgroups m p.0 p.1).1 ∷ rest.0, rest.1)

-- ---- under the same numbers

module _ (O : Tree) (bound : ℕ) (sound : Sound O) where
  abbrev same_numbers : ℕ → ℕ
  same_numbers s = s

  abbrev again : History cgroups → List Answer × Machine cgroups
  again h = answers cgroups (opened cgroups O bound) (asked_again same_numbers h)

  record IsAnswered (h : History cgroups) : Type 0 where
    reached : Reached O bound h
    same : again h ≡ (recorded_answers h, machine_of O bound h)

  module _ (r : Record cgroups) (h : History cgroups) (recorded : is_recorded r.request r.answer ≡ true) (replied : r.answer ≡ reply cgroups O bound h r.session r.request)
      (named : r.transaction ≡ named_in (transaction_in r.session (opens h)) r.answer) (proper : IsProperRequest r.request) (before : IsAnswered h) where
    on : StepsOn O bound h r.session r.request
    on = steps_by_history O bound h r.session r.request sound before.reached proper

    history_is : history_after O bound h r.session r.request ≡ r ∷ h
    history_is =
        (λ i. cond (is_recorded r.request (sym replied i)) (with_record h r.session r.request (sym replied i)) h)
        ∙ ap (λ b. cond b (with_record h r.session r.request r.answer) h) recorded
        ∙ (λ i. record { session = r.session; transaction = sym named i; request = r.request; answer = r.answer } ∷ h)

    asked_last : asked_again same_numbers (r ∷ h) ≡ asked_again same_numbers h ++ (r.session, r.request) ∷ []
    asked_last = ap (map call) (reverse-append (r ∷ []) h) ∙ map-append call (reverse h) (r ∷ [])
      where
        call : Record cgroups → ℕ × Request cgroups
        call k = (k.session, k.request)

    answered_last : recorded_answers (r ∷ h) ≡ recorded_answers h ++ r.answer ∷ []
    answered_last = ap (map (λ (k : Record cgroups). k.answer)) (reverse-append (r ∷ []) h) ∙ map-append (λ (k : Record cgroups). k.answer) (reverse h) (r ∷ [])

    one_more : IsAnswered (r ∷ h)
    one_more = record {
      reached = subst (Reached O bound) history_is on.reached;
      same =
          ap (answers cgroups (opened cgroups O bound)) asked_last
          ∙ answers_more (opened cgroups O bound) (asked_again same_numbers h) (r.session, r.request) (machine_of O bound h) (ap (λ (a : List Answer × Machine cgroups). a.1) before.same)
          ∙ (λ i. ((before.same i).0 ++ (on.answer ∙ sym replied) i ∷ [], (on.machine ∙ ap (machine_of O bound) history_is) i))
          ∙ (λ i. (sym answered_last i, machine_of O bound (r ∷ h)));
    }

  answered : (h : History cgroups) → Legal cgroups O bound h → RecordsProper h → IsAnswered h
  answered [] legal proper = record { reached = reached_at_first O bound; same = refl }
  answered (r ∷ h) (recorded, replied, named, defined, legal) proper = one_more r h recorded replied named proper.0 (answered h legal proper.1)

  -- ---- under any numbers that tell sessions apart

  module _ (h : History cgroups) (number : ℕ → ℕ) (reached : Reached O bound h) (tells : TellsApart number) where
    apart : (s t : ℕ) → (number s == number t) ≡ (s == t)
    apart s t = by (s == t) refl
      where
        by : (b : Bool) → (s == t) ≡ b → (number s == number t) ≡ b
        by true e = eq-eqb (number s) (number t) (ap number (eqb-true s t e))
        by false e = false_from_ne_true (number s == number t) (λ k. both_ways _ e (eq-eqb s t (tells s t (eqb-true (number s) (number t) k))))

    is_legal : Legal cgroups O bound h
    is_legal = (subst (IsFaithful cgroups O) reached.leads (faithful cgroups laws O sound bound reached.requests reached.proper)).legal

    all_proper : RecordsProper h
    all_proper = subst (λ (m : Machine cgroups). RecordsProper m.history) reached.leads (proper_steps (opened cgroups O bound) reached.requests reached.proper tt)

    asked_is : (k : History cgroups) → asked_again number k ≡ map (λ (p : ℕ × Request cgroups). (number p.0, p.1)) (asked_again same_numbers k)
    asked_is k = each (reverse k)
      where
        call : (ℕ → ℕ) → Record cgroups → ℕ × Request cgroups
        call f r = (f r.session, r.request)

        each : (rs : List (Record cgroups)) → map (call number) rs ≡ map (λ (p : ℕ × Request cgroups). (number p.0, p.1)) (map (call same_numbers) rs)
        each [] = refl
        each (r ∷ rs) = ap (λ l. (number r.session, r.request) ∷ l) (each rs)

    whole : answers cgroups (opened cgroups O bound) (asked_again number h) ≡ (recorded_answers h, new_machine cgroups number (machine_of O bound h))
    whole =
        ap (answers cgroups (opened cgroups O bound)) (asked_is h)
        ∙ answers_new cgroups number apart (opened cgroups O bound) (asked_again same_numbers h)
        ∙ (λ i. let a = (answered h is_legal all_proper).same i in (a.0, new_machine cgroups number a.1))

    pub answers_again : AnswersAgain O bound h number
    answers_again = record {
      same = ap (λ (a : List Answer × Machine cgroups). a.0) whole;
      tree = ap (λ (a : List Answer × Machine cgroups). a.1.tree) whole;
      transactions = ap (λ (a : List Answer × Machine cgroups). opens a.1.history) whole ∙ opens_new cgroups number h;
    }

pub histories_answer_again : HistoriesAnswerAgain
histories_answer_again O bound h number sound reached tells = answers_again O bound sound h number reached tells
