-- A step of the machine of a history: which history it leads to, and which tree.
use Rattle.std.proofs.Common.{◌≡◌, ◌==◌, ℕ, Bool, true, false, cond, List, [], ◌∷◌, map, Option, Some, None, option_map, refl, sym, ap, subst, ◌∙◌}
use Rattle.cg_model.specs.Cgroups.{cgroups}
use Rattle.cg_model.specs.History.{Request, Answer, History, is_recorded, IsProperRequest}
use Rattle.cg_model.specs.Live.{live}
use Rattle.cg_model.specs.Machine.{Machine, StackEntry, found, found_number, step, step_at, step_in, noted}
use Rattle.cg_model.specs.Opens.{Opens, transaction_in, opens}
use Rattle.cg_model.specs.Reply.{reply}
use Rattle.cg_model.specs.Run.{tree_of}
use Rattle.cg_model.specs.Sound.{Sound}
use Rattle.cg_model.specs.Tree.{Tree}
use Rattle.cg_core.specs.State as state
use Rattle.cg_core.specs.State.{CoreState, after}
use Rattle.cg_core_laws.specs.MachineOf.{entry_of, transaction_of, machine_of, history_after, with_record, Reached, StepsOn, StepsByHistory}

-- a number and its stack
abbrev held_by : Tree → History cgroups → ℕ → ℕ × List (StackEntry cgroups)
held_by O h t = (t, map (entry_of O) (live t h))

found_step : {A B : Type 0} (f : A → B) (b : Bool) (a : A) (o : Option A) → cond b (Some (f a)) (option_map f o) ≡ option_map f (cond b (Some a) o)
found_step f true a o = refl
found_step f false a o = refl

-- the stack of the machine is that of the history
machine_found : (O : Tree) (h : History cgroups) (s : ℕ) (ps : Opens) → found s (map (transaction_of O h) ps) ≡ option_map (held_by O h) (transaction_in s ps)
machine_found O h s [] = refl
machine_found O h s (p ∷ ps) = ap (cond (p.0 == s) (Some (held_by O h p.1))) (machine_found O h s ps) ∙ found_step (held_by O h) (p.0 == s) p.1 (transaction_in s ps)

-- a record changes neither the tree nor the answer
noted_tree : (b : Bool) (s : ℕ) (q : Request cgroups) (t : Option ℕ) (r : Machine cgroups × Answer) → (noted b s q t r).0.tree ≡ r.0.tree
noted_tree true s q t r = refl
noted_tree false s q t r = refl

noted_transactions : (b : Bool) (s : ℕ) (q : Request cgroups) (t : Option ℕ) (r : Machine cgroups × Answer) → (noted b s q t r).0.transactions ≡ r.0.transactions
noted_transactions true s q t r = refl
noted_transactions false s q t r = refl

noted_answer : (b : Bool) (s : ℕ) (q : Request cgroups) (t : Option ℕ) (r : Machine cgroups × Answer) → (noted b s q t r).1 ≡ r.1
noted_answer true s q t r = refl
noted_answer false s q t r = refl

module _ (steps : StepsByHistory) (O : Tree) (b : ℕ) (h : History cgroups) (sound : Sound O) (reached : Reached O b h) (s : ℕ) (q : Request cgroups) (proper : IsProperRequest q) where
  on : StepsOn O b h s q
  on = steps O b h s q sound reached proper

  abbrev at_history : Option ℕ → Machine cgroups × Answer
  at_history o = step_at cgroups (machine_of O b h) s q (option_map (held_by O h) o)

  step_tree : (step cgroups (machine_of O b h) s q).0.tree ≡ (at_history (transaction_in s (opens h))).0.tree
  step_tree =
      noted_tree _ s q (found_number (found s (machine_of O b h).transactions)) (step_at cgroups (machine_of O b h) s q (found s (machine_of O b h).transactions))
      ∙ ap (λ f. (step_at cgroups (machine_of O b h) s q f).0.tree) (machine_found O h s (opens h))

  step_answer : (step cgroups (machine_of O b h) s q).1 ≡ (at_history (transaction_in s (opens h))).1
  step_answer =
      noted_answer _ s q (found_number (found s (machine_of O b h).transactions)) (step_at cgroups (machine_of O b h) s q (found s (machine_of O b h).transactions))
      ∙ ap (λ f. (step_at cgroups (machine_of O b h) s q f).1) (machine_found O h s (opens h))

  -- the tree after a request of a session with the open transaction t, and the reply to it
  pub tree_in : (t : ℕ) → transaction_in s (opens h) ≡ Some t → tree_of cgroups O (history_after O b h s q) ≡ (step_in cgroups (machine_of O b h) t (map (entry_of O) (live t h)) q).0.tree
  tree_in t e = sym (ap (λ (m : Machine cgroups). m.tree) on.machine) ∙ step_tree ∙ ap (λ o. (at_history o).0.tree) e

  pub reply_in : (t : ℕ) → transaction_in s (opens h) ≡ Some t → reply cgroups O b h s q ≡ (step_in cgroups (machine_of O b h) t (map (entry_of O) (live t h)) q).1
  reply_in t e = sym on.answer ∙ step_answer ∙ ap (λ o. (at_history o).1) e

  -- the tree after a request of a session without one
  pub tree_out : transaction_in s (opens h) ≡ None → tree_of cgroups O (history_after O b h s q) ≡ (step_at cgroups (machine_of O b h) s q None).0.tree
  tree_out e = sym (ap (λ (m : Machine cgroups). m.tree) on.machine) ∙ step_tree ∙ ap (λ o. (at_history o).0.tree) e

  pub answer_out : transaction_in s (opens h) ≡ None → reply cgroups O b h s q ≡ (step_at cgroups (machine_of O b h) s q None).1
  answer_out e = sym on.answer ∙ step_answer ∙ ap (λ o. (at_history o).1) e

  -- and the open transactions
  pub transactions_out : transaction_in s (opens h) ≡ None → map (transaction_of O (history_after O b h s q)) (opens (history_after O b h s q)) ≡ (step_at cgroups (machine_of O b h) s q None).0.transactions
  transactions_out e =
      sym (ap (λ (m : Machine cgroups). m.transactions) on.machine)
      ∙ noted_transactions _ s q (found_number (found s (machine_of O b h).transactions)) (step_at cgroups (machine_of O b h) s q (found s (machine_of O b h).transactions))
      ∙ ap (λ f. (step_at cgroups (machine_of O b h) s q f).0.transactions) (machine_found O h s (opens h))
      ∙ ap (λ o. (at_history o).0.transactions) e

  -- the history after an answer that is recorded, or isn't
  module _ (a : Answer) (is : reply cgroups O b h s q ≡ a) where
    pub recorded : is_recorded q a ≡ true → history_after O b h s q ≡ with_record h s q a
    recorded r = (λ i. cond (is_recorded q (is i)) (with_record h s q (is i)) h) ∙ ap (λ c. cond c (with_record h s q a) h) r

    pub unrecorded : is_recorded q a ≡ false → history_after O b h s q ≡ h
    unrecorded r = (λ i. cond (is_recorded q (is i)) (with_record h s q (is i)) h) ∙ ap (λ c. cond c (with_record h s q a) h) r

    pub reached_on : is_recorded q a ≡ true → Reached O b (with_record h s q a)
    reached_on r = subst (Reached O b) (recorded r) on.reached

-- ---- the state of a core after a request

module _ (c : CoreState) (s : ℕ) (q : Request cgroups) (a : Answer) (is : state.reply c s q ≡ a) where
  -- it is as it was, where the answer is none to be recorded
  pub stays : is_recorded q a ≡ false → c ≡ after c s q
  stays r = λ i. record c { history = sym (kept a is r) i }
    where
      kept : (a : Answer) → state.reply c s q ≡ a → is_recorded q a ≡ false → history_after c.opening c.bound c.history s q ≡ c.history
      kept a is r = (λ i. cond (is_recorded q (is i)) (with_record c.history s q (is i)) c.history) ∙ ap (λ k. cond k (with_record c.history s q a) c.history) r

  -- and else it has the record
  pub goes_on : is_recorded q a ≡ true → record c { history = with_record c.history s q a } ≡ after c s q
  goes_on r = λ i. record c { history = sym (noted_down a is r) i }
    where
      noted_down : (a : Answer) → state.reply c s q ≡ a → is_recorded q a ≡ true → history_after c.opening c.bound c.history s q ≡ with_record c.history s q a
      noted_down a is r = (λ i. cond (is_recorded q (is i)) (with_record c.history s q (is i)) c.history) ∙ ap (λ k. cond k (with_record c.history s q a) c.history) r
