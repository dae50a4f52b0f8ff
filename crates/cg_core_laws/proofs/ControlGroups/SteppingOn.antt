-- Steps from a history that was reached: answer, machine and history are told by the records alone.
use Rattle.std.proofs.Common.{◌≡◌, ℕ, Bool, true, false, cond, List, [], ◌∷◌, ◌++◌, refl, sym, ap, subst, ◌∙◌}
use Rattle.cg_model.specs.Tree.{Tree}
use Rattle.cg_model.specs.Sound.{Sound}
use Rattle.cg_model.specs.Cgroups.{cgroups}
use Rattle.cg_model.specs.History.{Request, History, is_recorded, IsProperRequest}
use Rattle.cg_model.specs.Reply.{reply}
use Rattle.cg_model.specs.Machine.{Machine, opened, step, steps}
use Rattle.cg_core_laws.specs.MachineOf.{machine_of, Reached, with_record, history_after, StepsOn, StepsByHistory}
use Rattle.cg_core_laws.specs.Serial.{AreProper, IsFaithful}
use Rattle.cg_core_laws.proofs.ControlGroups.LawsOfGroups.{laws}
use Rattle.cg_core_laws.proofs.ControlGroups.WholeMachine.{machine_is}
use Rattle.cg_core_laws.proofs.Interleaving.AbortsAtTheEnd.{steps_more}
use Rattle.cg_core_laws.proofs.Interleaving.MachineOfHistory.{bound_kept}
use Rattle.cg_core_laws.proofs.Interleaving.Theorem.{serial, faithful, of_history}

-- nothing was asked yet
pub reached_at_first : (O : Tree) (bound : ℕ) → Reached O bound []
reached_at_first O bound = record { requests = []; proper = tt; leads = refl }

one_more_proper : (rs : List (ℕ × Request cgroups)) (p : ℕ × Request cgroups) → AreProper rs → IsProperRequest p.1 → AreProper (rs ++ p ∷ [])
one_more_proper [] p h k = (k, tt)
one_more_proper (r ∷ rs) p h k = (h.0, one_more_proper rs p h.1 k)

module _ (O : Tree) (bound : ℕ) (h : History cgroups) (sound : Sound O) (reached : Reached O bound h) where
  is_faithful : IsFaithful cgroups O (machine_of O bound h)
  is_faithful = subst (IsFaithful cgroups O) reached.leads (faithful cgroups laws O sound bound reached.requests reached.proper)

  module _ (s : ℕ) (r : Request cgroups) (is_proper : IsProperRequest r) where
    abbrev next : Machine cgroups
    next = (step cgroups (machine_of O bound h) s r).0

    abbrev more : List (ℕ × Request cgroups)
    more = reached.requests ++ (s, r) ∷ []

    more_proper : AreProper more
    more_proper = one_more_proper reached.requests (s, r) reached.proper is_proper

    leads_on : steps cgroups (opened cgroups O bound) more ≡ next
    leads_on = steps_more cgroups (opened cgroups O bound) reached.requests ((s, r) ∷ []) ∙ ap (λ m. (step cgroups m s r).0) reached.leads

    answer_is : (step cgroups (machine_of O bound h) s r).1 ≡ reply cgroups O bound h s r
    answer_is = is_faithful.replies s r

    history_by : (b : Bool) → is_recorded r (reply cgroups O bound h s r) ≡ b → next.history ≡ cond b (with_record h s r (reply cgroups O bound h s r)) h
    history_by true e = is_faithful.recorded s r (ap (is_recorded r) answer_is ∙ e) ∙ ap (with_record h s r) answer_is
    history_by false e = ap (λ (m : Machine cgroups). m.history) (is_faithful.unrecorded s r (ap (is_recorded r) answer_is ∙ e))

    next_is : next ≡ machine_of O bound (history_after O bound h s r)
    next_is =
        let whole : steps cgroups (opened cgroups O bound) more ≡ machine_of O (steps cgroups (opened cgroups O bound) more).bound (steps cgroups (opened cgroups O bound) more).history = machine_is O _ (of_history cgroups laws O sound bound more more_proper) (serial cgroups laws O sound bound more more_proper) in
        sym leads_on
        ∙ whole
        ∙ (λ i. machine_of O (bound_kept cgroups O laws bound more more_proper i) ((ap (λ (m : Machine cgroups). m.history) leads_on ∙ history_by (is_recorded r (reply cgroups O bound h s r)) refl) i))

    pub steps_on : StepsOn O bound h s r
    steps_on = record { answer = answer_is; machine = next_is; reached = record { requests = more; proper = more_proper; leads = leads_on ∙ next_is } }

pub steps_by_history : StepsByHistory
steps_by_history O bound h s r sound reached is_proper = steps_on O bound h sound reached s r is_proper
