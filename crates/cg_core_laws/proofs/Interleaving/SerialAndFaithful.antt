-- The machine with a log makes the machine serial, and faithful to its history.
use Rattle.std.proofs.Common.{◌≡◌, ℕ, ◌+◌, ◌≤◌, Bool, true, false, List, [], ◌∷◌, length, refl, sym, ap, ◌∙◌, subst}
use Rattle.cg_model.specs.System.{System}
use Rattle.cg_model.specs.History.{Request, Answer, History, is_recorded, named_in}
use Rattle.cg_model.specs.Opens.{Opens, numbers, among, without, transaction_in, opens}
use Rattle.cg_model.specs.Live.{committed, stacked}
use Rattle.cg_model.specs.Run.{run_items, Accepted}
use Rattle.cg_model.specs.Reply.{holder, live_count, slots}
use Rattle.cg_model.specs.Machine.{Machine, step}
use Rattle.cg_core_laws.specs.Serial.{IsOrder, IsLeastHolder, IsSerial, IsFaithful}
use Rattle.cg_core_laws.proofs.Interleaving.SystemLaws.{SystemLaws}
use Rattle.cg_core_laws.proofs.Interleaving.RunsOfStackEntries.{only, blocks}
use Rattle.cg_core_laws.proofs.Interleaving.LogMachine.{Log, held, log_step_at, log_noted, log_step}
use Rattle.cg_core_laws.proofs.Interleaving.LogInvariant.{Kept}
use Rattle.cg_core_laws.proofs.Interleaving.LogIsSerial.{kept_sound, kept_orders}
use Rattle.cg_core_laws.proofs.Interleaving.UnchangedBySteps.{same_history_at}
use Rattle.cg_core_laws.proofs.Interleaving.HistoryTie.{as_items, Tied, as_items_append, ran}
use Rattle.cg_core_laws.proofs.Interleaving.UnrecordedSteps.{quiet_step}
use Rattle.cg_core_laws.proofs.Interleaving.LeastHolder.{Falls, falls_without, least_holder, Falling}
use Rattle.cg_core_laws.proofs.Interleaving.AnswersAreReplies.{tree_is, held_is, step_answer}
use Rattle.cg_core_laws.proofs.Interleaving.AfterSteps.{Invariant, defined}
use Rattle.cg_core_laws.proofs.Interleaving.HistoryBound.{IsWithinBound}
use Rattle.cg_core_laws.proofs.Interleaving.Unwinding.{unwinds}
use Rattle.cg_core_laws.proofs.Interleaving.MachineOfLog.{machine_of}
use Rattle.cg_core_laws.proofs.Interleaving.MachineRunsAsLog.{step_is}

module _ (y : System) where
  -- with one record more, where the answer is recorded
  abbrev Grows : History y → Opens → ℕ → Request y → Machine y × Answer → Type 0
  Grows h ps s r p = is_recorded r p.1 ≡ true → p.0.history ≡ record { session = s; transaction = named_in (transaction_in s ps) p.1; request = r; answer = p.1 } ∷ h

  grows_noted : (c : Log y) (s : ℕ) (r : Request y) (p : Log y × Answer) (b : Bool) → is_recorded r p.1 ≡ b → p.0.history ≡ c.history → is_recorded r (log_noted b s r (transaction_in s c.opens) p).1 ≡ true → (log_noted b s r (transaction_in s c.opens) p).0.history ≡ record { session = s; transaction = named_in (transaction_in s c.opens) (log_noted b s r (transaction_in s c.opens) p).1; request = r; answer = (log_noted b s r (transaction_in s c.opens) p).1 } ∷ c.history
  grows_noted c s r p true k i e = ap (λ (h : History y). record { session = s; transaction = named_in (transaction_in s c.opens) p.1; request = r; answer = p.1 } ∷ h) i
  grows_noted c s r p false k i e = absurd (cc (k, e))

module _ (y : System) (laws : SystemLaws y) (o : y.State) where
  pub as_items_blocks : (c : Log y) (ts : List ℕ) → Tied y o c → as_items (blocks ts c.log c.done) ≡ stacked ts c.history (committed c.history)
  as_items_blocks c [] d = d.done
  as_items_blocks c (t ∷ ts) d = as_items_append y o (only t c.log) _ ∙ (rw (d.lives t, as_items_blocks c ts d))

  orders : (c : Log y) (ts : List ℕ) → Kept y o c → Tied y o c → IsOrder ts c.history → Accepted y o (stacked ts c.history (committed c.history)) × (run_items y o (stacked ts c.history (committed c.history)) ≡ c.tree)
  orders c ts k d order =
      let p = kept_orders y laws o c ts k order.0 (λ u. order.1 u ∙ ap (λ ps. among u (numbers ps)) (sym d.opens)) in
      let q = ran y o (blocks ts c.log c.done) p.0 in
      let e = as_items_blocks c ts d in
      (subst (Accepted y o) e q.1, sym (ap (run_items y o) e) ∙ q.0 ∙ p.1)

  pub serial_from : y.Sound o → (c : Log y) → Invariant y o c → IsSerial y o (machine_of c)
  serial_from sound c i = record {
    sound = kept_sound y laws o sound c i.kept;
    tree = tree_is y laws o c i.kept i.tied;
    accepted = (defined y laws o c i.kept i.tied).tree;
    orders = λ ts order. orders c ts i.kept i.tied order;
    unwinds = λ ts are_open. unwinds y laws o sound c ts i.kept i.tied are_open;
    commits = i.through;
  }

  grows : (c : Log y) (s : ℕ) (r : Request y) → Invariant y o c → Grows y c.history (opens c.history) s r (step y (machine_of c) s r)
  grows c s r i =
      let h = transaction_in s c.opens in
      let p = log_step_at y c s r h in
      let of_log : Grows y c.history c.opens s r (machine_of (log_step y c s r).0, (log_step y c s r).1) = grows_noted y c s r p (is_recorded r p.1) refl (same_history_at y c s r h).0 in
      subst (λ ps. Grows y c.history ps s r (step y (machine_of c) s r)) i.tied.opens (subst (Grows y c.history c.opens s r) (step_is y c s r i.kept.owners) of_log)

  quiet : (c : Log y) (s : ℕ) (r : Request y) → Invariant y o c → is_recorded r (step y (machine_of c) s r).1 ≡ false → (step y (machine_of c) s r).0 ≡ machine_of c
  quiet c s r i =
      subst (λ (q : Machine y × Answer). is_recorded r q.1 ≡ false → q.0 ≡ machine_of c) (step_is y c s r i.kept.owners) (λ e. ap (λ (d : Log y). machine_of d) (quiet_step y c s r e))

  busy : (c : Log y) (t : ℕ) (f : y.Footprint) → Tied y o c → Falling c → IsLeastHolder y o f c.history (numbers (without t (opens c.history))) (holder y o f c.history (numbers (without t (opens c.history))))
  busy c t f d fall =
      let ps = opens c.history in
      let n = c.begun + 1 in
      least_holder y o f c.history n (without t ps) (falls_without t n ps (subst (Falls n) d.opens fall))

  within_bound : (c : Log y) → Tied y o c → IsWithinBound c → slots c.history ≤ c.bound
  within_bound c d has =
      let e : length c.opens + held c.opens c.log ≡ length (opens c.history) + live_count (opens c.history) c.history =
      ap (λ n. length c.opens + n) (held_is y laws o c c.opens d) ∙ ap (λ ps. length ps + live_count ps c.history) d.opens in
      subst (λ n. length c.history + n ≤ c.bound) e has

  pub faithful_from : (c : Log y) → Invariant y o c → Falling c → (2 ≤ c.bound → IsWithinBound c) → IsFaithful y o (machine_of c)
  faithful_from c i fall has = record {
    legal = i.legal;
    replies = λ s r. sym (ap (λ (q : Machine y × Answer). q.1) (step_is y c s r i.kept.owners)) ∙ step_answer y laws o c s r i.kept i.tied;
    recorded = λ s r. grows c s r i;
    unrecorded = λ s r. quiet c s r i;
    busy = λ t f. busy c t f i.tied fall;
    within_bound = λ le. within_bound c i.tied (has le);
  }
